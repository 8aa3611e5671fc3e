-- A line's words against a form's.
use Rattle.std.specs.Prelude.{ℕ, ◌+◌, cond, List, [], ◌∷◌, replicate, Some, None, codes, Option, nat_lt, slice_set}
use Rattle.std.specs.Option.{option_map}
use Rattle.std.specs.Str.{bytes_eq}
use Rattle.fields.specs.Shapes.{nowhere}
use Rattle.fields.specs.declared.values.Place.{Place}
use Rattle.script.specs.Taking.{and_then, take_number, take_place}
use Rattle.script.specs.declared.fitting.Taken.{Taken}

-- before the first word
abbrev pub nothing_taken : Taken
nothing_taken = record { numbers = replicate 4 0; count = 0; place = nowhere }

-- one number more, of at most four
abbrev pub with_number : Taken → ℕ → Option Taken
with_number t n =
    cond (nat_lt t.count 4) (Some (record { numbers = slice_set t.numbers t.count n; count = t.count + 1; place = t.place })) None

-- and a place
abbrev pub with_place : Taken → Place → Taken
with_place t w = record { numbers = t.numbers; count = t.count; place = w }

-- a word that stands for itself
abbrev pub take_keyword : List ℕ → List (List ℕ) → Taken → Option (Taken × List (List ℕ))
take_keyword sign [] t = None
take_keyword sign (w ∷ ws) t = cond (bytes_eq w sign) (Some (t, ws)) None

-- what one word of a form takes
unfoldable pub take_word : List ℕ → List (List ℕ) → Taken → Option (Taken × List (List ℕ))
take_word sign ws t =
    cond (bytes_eq sign (codes "#")) (and_then (take_number ws) (λ n ws. option_map (λ t. (t, ws)) (with_number t n)))
    (cond (bytes_eq sign (codes "@")) (and_then (take_place ws) (λ w ws. Some (with_place t w, ws))) (take_keyword sign ws t))

-- what a form's words take of a line's, and the words behind
unfoldable pub fit : List (List ℕ) → List (List ℕ) → Taken → Option (Taken × List (List ℕ))
fit [] ws t = Some (t, ws)
fit (sign ∷ signs) ws t = and_then (take_word sign ws t) (λ t ws. fit signs ws t)
