-- What a call from a page is given, and what it tells.
use Rattle.std.specs.Prelude.{◌≡◌, ◌≤◌, ◌⊎◌, ℕ, List, [], ◌∷◌, length, take, drop, Option, Some, None, IfSome, IsUtf8, bytes_eq, cond}
use Rattle.tim_base.specs.declared.shelf.memory.MemShelf.{MemShelf}
use Rattle.tim_base.specs.Shelves.{bytes_at}
use Rattle.tim_base.specs.Faults.{Rose}
use Rattle.tool_words.specs.WordsAsked.{command_of}
use Rattle.tool_texts.specs.declared.status.Status.{Status}
use Rattle.tool_texts.specs.Statuses.{exit_number}
use Rattle.tool_texts.specs.Ends.{EndsBy, Nothing}
use Rattle.tool_stages.specs.Content.{Content}
use Rattle.mit_tool.specs.Answers.{IsUsage}
use Rattle.mit_tool.specs.Commands.{IsAnswer, Before}
use Rattle.lab_words.specs.QuestionAsked.{question_of}
use Rattle.lab_tool.specs.Answers.{IsAnswer as IsLabAnswer, IsUsage as IsLabUsage, Before as LabBefore}
use Rattle.mit_web.specs.declared.call.Program.{Program}
use Rattle.mit_web.specs.declared.call.Program.TheVariants.{Tool, Lab}

-- the pieces of these lengths that stand in a row, one after the other
abbrev pub pieces : List ℕ → List ℕ → List (List ℕ)
pieces [] row = []
pieces (n ∷ ns) row = take n row ∷ pieces ns (drop n row)

-- the row has as many bytes as the lengths say, and each piece is UTF-8
abbrev pub AreTexts : List ℕ → List ℕ → Type 0
AreTexts [] row = Unit {0}
AreTexts (n ∷ ns) row = (n ≤ length row) × IsUtf8 (take n row) × AreTexts ns (drop n row)

-- the row has as many bytes as the lengths say of the pieces that have a name
abbrev pub AreContents : List (List ℕ) → List ℕ → List ℕ → Type 0
AreContents [] ns row = Unit {0}
AreContents (name ∷ names) [] row = Unit {0}
AreContents (name ∷ names) (n ∷ ns) row = (n ≤ length row) × AreContents names ns (drop n row)

-- Rows make a call: they have as many bytes as the lengths say, and words and names are UTF-8.
abbrev pub AreRows : List ℕ → List ℕ → List ℕ → List ℕ → List ℕ → List ℕ → Type 0
AreRows word_lengths words name_lengths names file_lengths contents =
    AreTexts word_lengths words × AreTexts name_lengths names × AreContents (pieces name_lengths names) file_lengths contents

-- what names hold after files were put, one after the other: a later one of a name replaces an earlier one
abbrev pub put_over : (List ℕ → Option (List ℕ)) → List (List ℕ) → List (List ℕ) → List ℕ → Option (List ℕ)
put_over holds [] contents = holds
put_over holds (n ∷ ns) [] = holds
put_over holds (n ∷ ns) (c ∷ cs) = put_over (λ name. cond (bytes_eq name n) (Some c) (holds name)) ns cs

-- what names hold where these files and no others were put
abbrev pub held_by : List (List ℕ) → List (List ℕ) → List ℕ → Option (List ℕ)
held_by names contents = put_over (λ name. None) names contents

-- Files were put on a shelf, over whatever its names held.
pub record PutsAll (old new : MemShelf) (names contents : List (List ℕ)) : Type 0 where
  pub puts : (holds : List ℕ → Option (List ℕ)) → ((name : List ℕ) → bytes_at old name ≡ holds name) → (name : List ℕ)
      → bytes_at new name ≡ put_over holds names contents name

-- The answer of a program to words, where so much of the text was there before; `Rises` tells the names whose counts of
-- faults rose.
abbrev pub Answered : Program → List ℕ → List (List ℕ) → Content → (List ℕ → Type 0) → List ℕ → Status → Type 0
Answered Tool old words content Rises text s =
    IfSome (command_of words) (λ a. EndsBy (Some old) (Some text) (Before content a) (IsAnswer Rises content a) s)
    × (command_of words ≡ None → EndsBy (Some old) (Some text) Nothing IsUsage s)
Answered Lab old words content Rises text s =
    IfSome (question_of words) (λ a. EndsBy (Some old) (Some text) (LabBefore content a) (IsLabAnswer Rises content a) s)
    × (question_of words ≡ None → EndsBy (Some old) (Some text) Nothing (IsLabUsage words) s)

-- The answer of a program to words, over files that hold this: the exit number and the text. The counts of faults of names
-- tell of which ones a read may have failed.
pub record IsAnswerOf (program : Program) (words : List (List ℕ)) (held : List ℕ → Option (List ℕ)) (number : ℕ) (text : List ℕ) : Type 0 where
  pub status : Status
  pub numbered : number ≡ exit_number status
  pub content : Content
  pub holds : (name : List ℕ) → content name ≡ Some (held name)
  pub before : List ℕ → ℕ
  pub after : List ℕ → ℕ
  pub answered : Answered program [] words content (λ name. Rose (before name) (after name)) text status

-- What stands in a room is the text, as far as the room goes.
pub record Shows (room : ℕ) (out : List ℕ) (count : ℕ) (text : List ℕ) : Type 0 where
  pub shown : take count out ≡ take room text

-- A call told the program's answer.
pub record TellsAnswer (program : Program) (words names contents : List (List ℕ)) (number room : ℕ) (out : List ℕ) (count : ℕ) : Type 0 where
  pub text : List ℕ
  pub answer : IsAnswerOf program words (held_by names contents) number text
  pub shows : Shows room out count text

-- How a call of rows ended, with a number and a count of bytes in the room: memory was wanting; or the rows make no call;
-- or they make one, and the program's answer is told.
abbrev pub EndsCall : Program → List ℕ → List ℕ → List ℕ → List ℕ → List ℕ → List ℕ → ℕ → List ℕ → ℕ → ℕ → Type 0
EndsCall program word_lengths words name_lengths names file_lengths contents room out number count =
    ((number ≡ 11) × (count ≡ 0))
    ⊎ ((number ≡ 13) × (count ≡ 0) × (AreRows word_lengths words name_lengths names file_lengths contents → ⊥))
    ⊎ (AreRows word_lengths words name_lengths names file_lengths contents
    × TellsAnswer program (pieces word_lengths words) (pieces name_lengths names) (pieces file_lengths contents) number room out count)
