-- What is written
pub mod Sequence
pub mod ShortLines
-- Texts, told apart
pub mod Said
pub mod ToldAnswers
pub mod OneLine
pub mod OneText
-- What is read: words, lines, and lines one after another
pub mod Making
pub mod ItemKinds
pub mod StepLines
pub mod ValueWords
pub mod FirstLine
pub mod Taking
pub mod Passing
pub mod Lacking
pub mod LineTexts
pub mod WholeTexts
