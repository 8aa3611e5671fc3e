-- What stands between the number of a call or an answer and its end: numbers, then perhaps a place, then perhaps a list.
use Rattle.std.specs.Prelude.{ℕ, ◌+◌, ◌-◌, ◌/◌, ◌%◌, Bool, true, false, cond, List, [], ◌∷◌, ◌++◌, length, take, replicate, Some, None, Option, ◌==◌, nat_le, nat_lt, slice_index}
use Rattle.model.specs.Calls as model
use Rattle.fields.specs.Bytes.{numbers_in}
use Rattle.fields.specs.Codec.{Codec, nothing, byte, numbers, both, via}
use Rattle.fields.specs.declared.values.Place.{Place}
use Rattle.fields.specs.declared.values.Numbers.{Numbers}
use Rattle.fields.specs.declared.values.Numbers.TheVariants as numbers
use Rattle.fields.specs.declared.values.Fields.{Fields}
use Rattle.fields.specs.declared.values.Shape.{Shape}

-- Which fields there are: how many numbers, whether a place, and a list of at most how many numbers.
pub record Layout : Type 0 where
  pub numbers : ℕ
  pub place : Bool
  pub list : Option ℕ

-- The fields of a call or an answer. Those that its layout lacks are 0: there are always four numbers.
pub record Body : Type 0 where
  pub numbers : List ℕ
  pub place : model.Place
  pub list : List ℕ

-- n numbers, and zeros up to four
abbrev pub padded : ℕ → Codec (List ℕ)
padded n = via (λ ns. ns ++ replicate (4 - n) 0) (λ ns. take n ns) (numbers n)

-- a place's rights as a byte: 1 if it may be written, and 2 if run
abbrev pub rights : Bool → Bool → ℕ
rights w x = cond w 1 0 + cond x 2 0

abbrev pub to_place : List ℕ × ℕ → model.Place
to_place v = record { table = slice_index v.0 0; slot = slice_index v.0 1; write = (v.1 % 2 == 1); run = nat_le 2 v.1 }

abbrev pub from_place : model.Place → List ℕ × ℕ
from_place w = (w.table ∷ (w.slot ∷ []), rights w.write w.run)

-- a place: its table, its slot, and a byte of rights
abbrev pub place : Codec model.Place
place = via to_place from_place (both (numbers 2) (λ _. byte (λ b. nat_lt b 4)))

-- the place of a layout that has none
abbrev pub origin : model.Place
origin = record { table = 0; slot = 0; write = false; run = false }

-- a list: a byte that says how many numbers it has, at most so many, and these
abbrev pub list : ℕ → Codec (List ℕ)
list most = via (λ v. v.1) (λ ns. (length ns, ns)) (both (byte (λ b. nat_le b most)) numbers)

abbrev pub place_if : Bool → Codec model.Place
place_if true = place
place_if false = nothing origin

abbrev pub list_if : Option ℕ → Codec (List ℕ)
list_if (Some most) = list most
list_if None = nothing []

-- whether a list of so many numbers is one of a layout
abbrev pub few : Option ℕ → ℕ → Bool
few (Some most) n = nat_le n most
few None n = true

abbrev pub to_body : List ℕ × (model.Place × List ℕ) → Body
to_body v = record { numbers = v.0; place = v.1.0; list = v.1.1 }

abbrev pub from_body : Body → List ℕ × (model.Place × List ℕ)
from_body f = (f.numbers, (f.place, f.list))

-- the fields of a layout, one after another
abbrev pub body : Layout → Codec Body
body s = via to_body from_body (both (padded s.numbers) (λ _. both (place_if s.place) (λ _. list_if s.list)))

-- what the code's values mean
abbrev pub layout : Shape → Layout
layout s = record { numbers = s.numbers; place = s.place; list = s.list }

abbrev pub place_of : Place → model.Place
place_of w = record { table = w.table; slot = w.slot; write = w.write; run = w.run }

abbrev pub nowhere : Place
nowhere = record { table = 0; slot = 0; write = false; run = false }

abbrev pub numbers_of : Numbers → List ℕ
numbers_of numbers.None = []
numbers_of (numbers.One n) = n ∷ []
numbers_of (numbers.Name ws) = ws
numbers_of (numbers.Registers r) = r.words
numbers_of (numbers.Lent bs) = numbers_in (length bs.now / 8) bs.now

abbrev pub body_of : Fields → Body
body_of f = record { numbers = f.numbers; place = place_of f.place; list = numbers_of f.list }
