-- The tokens of some bytes, as they are kept.
use Rattle.std.specs.Prelude.{◌≡◌, ℕ, List, map, None}
use Rattle.ps_lex.specs.declared.position.Position.{Position}
use Rattle.ps_lex.specs.declared.token.Token.{Token}
use Rattle.ps_lex.specs.Places.{start}
use Rattle.ps_lex.specs.Seen.{behind_all}
use Rattle.ps_lex.specs.Lexing.{new_lexer, lexed}
use Rattle.ps_domains.specs.declared.lexed.PlacedToken.{PlacedToken}
use Rattle.ps_domains.specs.declared.lexed.LexedText.{LexedText}

-- a token with where it begins
abbrev pub pair_of : PlacedToken → Token × Position
pair_of p = (p.token, p.place)

-- the tokens are those that bytes tell, with where none begins, if there is such a place, and else the place behind the bytes
pub record IsLexed (bytes : List ℕ) (x : LexedText) : Type 0 where
  pub told : (map pair_of x.tokens, x.bad) ≡ lexed new_lexer bytes
  pub end : x.bad ≡ None → x.end ≡ behind_all start bytes
