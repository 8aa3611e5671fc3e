-- Numbers and places at the front of words: what is taken, and the words behind it.
use Rattle.std.specs.Prelude.{ℕ, Bool, true, false, cond, List, [], ◌∷◌, Some, None, codes, Option}
use Rattle.std.specs.Option.{option_map}
use Rattle.std.specs.Str.{bytes_eq}
use Rattle.fields.specs.declared.values.Place.{Place}
use Rattle.script.specs.Words.{words_left}
use Rattle.script.specs.Numerals.{number_of}
use Rattle.script.specs.declared.words.Words.{Words}

-- what code took, with the words behind it
abbrev pub seen : {A : Type 0} → Option A → Words → Option (A × List (List ℕ))
seen r w = option_map (λ x. (x, words_left w)) r

-- one thing and then another
abbrev pub and_then : {A B : Type 0} → Option (A × List (List ℕ)) → (A → List (List ℕ) → Option B) → Option B
and_then None f = None
and_then (Some x) f = f x.0 x.1

-- a word that is a number
abbrev pub take_number : List (List ℕ) → Option (ℕ × List (List ℕ))
take_number [] = None
take_number (w ∷ ws) = option_map (λ n. (n, ws)) (number_of w)

-- what a word of rights lets: to write, to run
abbrev pub right_of : List ℕ → Option (Bool × Bool)
right_of w =
    cond (bytes_eq w (codes "w")) (Some (true, false))
    (cond (bytes_eq w (codes "x")) (Some (false, true)) (cond (bytes_eq w (codes "wx")) (Some (true, true)) None))

-- another word than one of rights stays where it is
abbrev pub rights_or : Option (Bool × Bool) → List ℕ → List (List ℕ) → (Bool × Bool) × List (List ℕ)
rights_or (Some r) w ws = (r, ws)
rights_or None w ws = ((false, false), w ∷ ws)

-- rights, if the first word is one of them
abbrev pub take_rights : List (List ℕ) → (Bool × Bool) × List (List ℕ)
take_rights [] = ((false, false), [])
take_rights (w ∷ ws) = rights_or (right_of w) w ws

-- a place of a table's number, a slot's, and rights
abbrev pub place_with : ℕ → ℕ → (Bool × Bool) × List (List ℕ) → Place × List (List ℕ)
place_with i j r = (record { table = i; slot = j; write = r.0.0; run = r.0.1 }, r.1)

-- a place: two numbers, and perhaps rights
abbrev pub take_place : List (List ℕ) → Option (Place × List (List ℕ))
take_place ws =
    and_then (take_number ws) (λ i ws. and_then (take_number ws) (λ j ws. Some (place_with i j (take_rights ws))))
