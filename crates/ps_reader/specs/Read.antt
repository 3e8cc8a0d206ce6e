-- What is answered of words that should say something.
use Rattle.std.specs.Prelude.{ℕ, ◌≡◌, List, Some, None, Result, Ok, Err, codes, ⊤}
use Rattle.ps_answer.specs.Words.{Word, SpellsWord, SpellWords}
use Rattle.ps_answer.specs.declared.item.LineItem.{LineItem}
use Rattle.ps_answer.specs.declared.part.Part.{Part}
use Rattle.ps_answer.specs.declared.part.Part.TheVariants.{AnEntry, SomeRows, AStep, AGoal, AnEvent}
use Rattle.ps_answer.specs.Faults.{first_of}
use Rattle.ps_answer.specs.Items.{item_words, IsProper, IsWithin}
use Rattle.ps_answer.specs.ExpectedParts.{behind}
use Rattle.ps_reader.specs.declared.line_fault.LineFault.{LineFault}
use Rattle.ps_reader.specs.declared.line_fault.LineFault.TheVariants.{NotCanonical, TooLarge, NoMemory}

-- what is said, within its limits; or nothing is; or what is said is past a limit; or memory lacks, where it may
abbrev pub IsReadOrLacks : {A : Type 0} → Type 0 → (A → Type 0) → (A → Type 0) → Result A LineFault → Type 0
IsReadOrLacks MayLack Says Fits (Ok a) = Says a × Fits a
IsReadOrLacks {A} MayLack Says Fits (Err NotCanonical) = (a : A) → Says a → ⊥
IsReadOrLacks {A} MayLack Says Fits (Err TooLarge) = (a : A) × Says a × (Fits a → ⊥)
IsReadOrLacks MayLack Says Fits (Err NoMemory) = MayLack

-- where no memory is taken
abbrev pub IsRead : {A : Type 0} → (A → Type 0) → (A → Type 0) → Result A LineFault → Type 0
IsRead Says Fits result = IsReadOrLacks ⊥ Says Fits result

-- a word says this: it is written so, and is what is asked
abbrev pub WordSays : {A : Type 0} → (A → Word) → (A → Type 0) → List ℕ → A → Type 0
WordSays written Asks word a = SpellsWord word (written a) × Asks a

-- a word is read: how it is written, what it asks, and its limit
abbrev pub IsWordRead : {A : Type 0} → (A → Word) → (A → Type 0) → (A → Type 0) → List ℕ → Result A LineFault → Type 0
IsWordRead written Asks Fits word result = IsRead (WordSays written Asks word) Fits result

-- words say this: they are written so, and are what is asked
abbrev pub WordsSay : {A : Type 0} → (A → List Word) → (A → Type 0) → List (List ℕ) → A → Type 0
WordsSay written Asks words a = SpellWords words (written a) × Asks a

-- words are read
abbrev pub AreWordsRead : {A : Type 0} → (A → List Word) → (A → Type 0) → (A → Type 0) → List (List ℕ)
    → Result A LineFault → Type 0
AreWordsRead written Asks Fits words result = IsRead (WordsSay written Asks words) Fits result

-- both of two readings, or why not; that something isn't written so comes before that it is too large
abbrev pub both : {A B : Type 0} → Result A LineFault → Result B LineFault → Result (A × B) LineFault
both (Ok a) (Ok b) = Ok (a, b)
both (Ok a) (Err why) = Err why
both (Err TooLarge) (Ok b) = Err TooLarge
both (Err TooLarge) (Err why) = Err why
both (Err NotCanonical) r = Err NotCanonical
both (Err NoMemory) r = Err NoMemory

-- the part may begin with what a line says, whatever is due after it
abbrev pub Fits : Part → LineItem → Type 0
Fits p i = (due : List Part) → (next : List Part) × (behind p i due ≡ Some next)

-- the part can't begin so
abbrev pub FitsNot : Part → LineItem → Type 0
FitsNot p i = (due : List Part) → behind p i due ≡ None

-- words say this
pub record IsSaid (words : List (List ℕ)) (i : LineItem) : Type 0 where
  pub spelled : SpellWords words (item_words i)
  pub proper : IsProper i

-- memory is taken for what words say, where a part is due: for worlds, multipliers, steps and goals
abbrev pub TakesMemory : Part → List (List ℕ) → Type 0
TakesMemory AnEntry words = ⊤
TakesMemory SomeRows words = ⊤
TakesMemory AStep words = ⊤
TakesMemory AGoal words = ⊤
TakesMemory AnEvent words = first_of words ≡ codes "c"
TakesMemory p words = ⊥

-- what is answered of the words of a line, where a part is due
abbrev pub IsItemRead : Part → List (List ℕ) → Result LineItem LineFault → Type 0
IsItemRead p words (Ok i) = IsSaid words i × IsWithin i × Fits p i
IsItemRead p words (Err NotCanonical) = (i : LineItem) → IsSaid words i → FitsNot p i
IsItemRead p words (Err TooLarge) = (i : LineItem) × IsSaid words i × Fits p i × (IsWithin i → ⊥)
IsItemRead p words (Err NoMemory) = TakesMemory p words
