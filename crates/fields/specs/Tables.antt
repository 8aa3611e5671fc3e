-- A table of messages: a row for each number that is one, with its layout, and what its fields make.
use Rattle.std.specs.Prelude.{◌≡◌, ℕ, Bool, false, cond, List, [], ◌∷◌, replicate, is_some, Some, None, Option, Result, ◌==◌, slice_index, MatchResult}
use Rattle.std.specs.Option.{option_map}
use Rattle.fields.specs.Codec.{Codec, nothing, byte, both, via}
use Rattle.fields.specs.Shapes.{Layout, Body, origin, body, few}
use Rattle.fields.specs.declared.values.UnknownKind.{UnknownKind}

pub record Row (A : Type 0) : Type 0 where
  pub number : ℕ
  pub layout : Layout
  pub makes : Body → A

-- a row, by its number, how many numbers it has, whether a place, and a list of at most how many
abbrev pub row : {A : Type 0} → ℕ → ℕ → Bool → Option ℕ → (Body → A) → Row A
row n k p l makes = record { number = n; layout = record { numbers = k; place = p; list = l }; makes = makes }

abbrev pub find : {A : Type 0} → ℕ → List (Row A) → Option (Row A)
find n [] = None
find n (r ∷ rs) = cond (n == r.number) (Some r) (find n rs)

-- the kind that has a number, or the number, which no row has
abbrev pub Finds : {K A : Type 0} → (K → ℕ) → List (Row A) → ℕ → Result K UnknownKind → Type 0
Finds number_of rs n r = MatchResult r (λ kind. number_of kind ≡ n) (λ unknown. (unknown.0 ≡ n) × (find n rs ≡ None))

abbrev pub layout_of : {A : Type 0} → ℕ → List (Row A) → Option Layout
layout_of n rs = option_map (λ r. r.layout) (find n rs)

-- the fields of a body, by name
abbrev pub first : Body → ℕ
first f = slice_index f.numbers 0

abbrev pub second : Body → ℕ
second f = slice_index f.numbers 1

abbrev pub third : Body → ℕ
third f = slice_index f.numbers 2

abbrev pub fourth : Body → ℕ
fourth f = slice_index f.numbers 3

-- what fields make under a number; under one that no row has, a value that stands for none
abbrev pub made : {A : Type 0} → A → Option (Row A) → Body → A
made none (Some r) f = r.makes f
made none None f = none

abbrev pub shaped : {A : Type 0} → Option (Row A) → Codec Body
shaped (Some r) = body r.layout
shaped None = nothing (record { numbers = replicate 4 0; place = origin; list = [] })

-- whether a list of so many numbers is one of a row
abbrev pub few_for : {A : Type 0} → Option (Row A) → ℕ → Bool
few_for (Some r) n = few r.layout.list n
few_for None n = false

-- a number that a row has, and then the row's fields
abbrev pub message : {A : Type 0} → List (Row A) → Codec (ℕ × Body)
message rs = both (byte (λ n. is_some (find n rs))) (λ n. shaped (find n rs))

-- values, by the number and the fields that each has
abbrev pub messages : {A : Type 0} → A → List (Row A) → (A → ℕ × Body) → Codec A
messages none rs from = via (λ m. made none (find m.0 rs) m.1) from (message rs)
