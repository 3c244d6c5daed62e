-- The set lines of an output.
use Rattle.std.specs.Prelude.{◌≡◌, ℕ, Bool, false, ◌==◌, cond, List, [], ◌∷◌, ◌++◌, filter}
use Rattle.lists.specs.Lists.{◌∈◌, HasNoRepeats, Each}
use Rattle.asp_syntax.specs.declared.tree.Statement.{Statement}
use Rattle.asp_meaning.specs.Atoms.{Atom}
use Rattle.asp_meaning.specs.Programs.{IsAnswerSet}
use Rattle.asp_meaning.specs.Lines.{IsSetLine}

abbrev pub before_first : ℕ → List (List ℕ) → List (List ℕ)
before_first b [] = []
before_first b (line ∷ more) = (b ∷ line) ∷ more

-- the whole lines of bytes, each with its line feed; what stands after the last line feed is no whole line
abbrev pub whole_lines : List ℕ → List (List ℕ)
whole_lines [] = []
whole_lines (b ∷ bytes) = cond (b == 10) ((b ∷ []) ∷ whole_lines bytes) (before_first b (whole_lines bytes))

abbrev pub begins_with_brace : List ℕ → Bool
begins_with_brace [] = false
begins_with_brace (b ∷ bytes) = b == 123

-- the whole lines that begin with `{`
abbrev pub set_lines : List ℕ → List (List ℕ)
set_lines bytes = filter begins_with_brace (whole_lines bytes)

-- bytes that are one whole line which begins with `{`: their only line feed stands at their end
pub record IsBraceLine (line : List ℕ) : Type 0 where
  pub inner : List ℕ
  pub is : line ≡ 123 ∷ (inner ++ (10 ∷ []))
  pub no_feed : ¬ (10 ∈ inner)

-- the line of some answer set
pub record IsAnswerSetLine (P : List Statement) (line : List ℕ) : Type 0 where
  pub set : List Atom
  pub answer_set : IsAnswerSet P set
  pub is : IsSetLine set line

-- lines of answer sets, no two of them equal
pub record AreAnswerSetLines (P : List Statement) (lines : List (List ℕ)) : Type 0 where
  pub each : Each (IsAnswerSetLine P) lines
  pub once : HasNoRepeats lines
  pub whole : Each IsBraceLine lines

-- every answer set has its line among these
abbrev pub HaveAll : List Statement → List (List ℕ) → Type 0
HaveAll P lines = (I : List Atom) → IsAnswerSet P I → (line : List ℕ) × (line ∈ lines) × IsSetLine I line
