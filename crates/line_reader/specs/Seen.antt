-- What a line that is read in part says.
use Rattle.std.specs.Prelude.{ℕ, List, [], ◌∷◌, ◌≡◌, MatchOption, Option as Answer}
use Rattle.std.proofs.Math.Option.{Option, none, some}
use Rattle.format.specs.Lines.{Fields, matched}
use Rattle.line_reader.specs.declared.Line.{Line}

-- The two latest values, and the bytes that follow.
pub record Seen : Type 0 where
  pub first : ℕ
  pub second : ℕ
  pub rest : List ℕ

abbrev pub said : Line → Seen
said l = record { first = l.first; second = l.second; rest = l.rest.now }

-- A line that begins a text.
abbrev pub started : List ℕ → Seen
started s = record { first = 0; second = 0; rest = s }

-- A line is read where there is one, and says so.
abbrev pub Gives : Answer Line → Option Seen → Type 0
Gives r x = MatchOption r (x ≡ none) (λ l. x ≡ some (said l))

-- The two latest of two values and those that follow them.
unfoldable pub latest : ℕ → ℕ → List ℕ → List ℕ → Seen
latest a b [] rest = record { first = a; second = b; rest = rest }
latest a b (v ∷ vs) rest = latest b v vs rest

abbrev pub latest_of : ℕ → ℕ → Option Fields → Option Seen
latest_of a b none = none
latest_of a b (some f) = some (latest a b f.values f.rest)

-- What a form matches next.
unfoldable pub advance : List ℕ → Seen → Option Seen
advance form x = latest_of x.first x.second (matched form x.rest)
