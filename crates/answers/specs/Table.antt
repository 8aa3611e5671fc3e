-- The table of answers: for each, its number, how many numbers it has, and a list of at most how many; and the answer that these fields
-- make. The bytes of an answer are its number, one byte, and then its fields in this order.
use Rattle.std.specs.Prelude.{◌≡◌, ℕ, Bool, true, false, List, [], ◌∷◌, length, Some, None}
use Rattle.model.specs.Answers.{Answer, refused, done, number, enters, told, left}
use Rattle.fields.specs.Bytes.{Wide}
use Rattle.fields.specs.Codec.{Codec}
use Rattle.fields.specs.Shapes.{Body, origin}
use Rattle.fields.specs.Tables.{Row, row, find, few_for, first, second, messages}

abbrev pub table : List (Row Answer)
table =
    row 0 2 false None (λ f. refused (record { number = first f; place = second f }))
    ∷ (row 1 0 false None (λ f. done)
    ∷ (row 2 1 false None (λ f. number (first f))
    ∷ (row 3 1 false (Some 255) (λ f. enters (first f) f.list)
    ∷ (row 4 1 false (Some 255) (λ f. told (first f) f.list)
    ∷ (row 5 2 false None (λ f. left (first f) (second f))
    ∷ [])))))

-- the fields of an answer: numbers, up to two, and a list
abbrev pub with : ℕ → ℕ → List ℕ → Body
with a b l = record { numbers = a ∷ (b ∷ (0 ∷ (0 ∷ []))); place = origin; list = l }

-- an answer's number and fields
abbrev pub parts : Answer → ℕ × Body
parts (refused r) = (0, with r.number r.place [])
parts done = (1, with 0 0 [])
parts (number n) = (2, with n 0 [])
parts (enters t rs) = (3, with t 0 rs)
parts (told e ns) = (4, with e 0 ns)
parts (left j n) = (5, with j n [])

-- answers as bytes
unfoldable pub answers : Codec Answer
answers = messages done table parts

unfoldable pub write_answer : Answer → List ℕ
write_answer a = answers.write a

-- whether its bytes can carry an answer's list, as to how many numbers it has
unfoldable pub carried : Answer → Bool
carried a = few_for (find (parts a).0 table) (length (parts a).1.list)

-- answers that their bytes can carry: each number fits eight bytes, and the list isn't too long
pub record Carried (a : Answer) : Type 0 where
  pub short : carried a ≡ true
  pub numbers : Wide (parts a).1.numbers
  pub list : Wide (parts a).1.list
