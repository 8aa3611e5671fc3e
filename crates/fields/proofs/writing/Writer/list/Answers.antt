use Rattle.std.proofs.Common.{◌≡◌, ℕ, ◌+◌, ◌*◌, ◌/◌, List, [], ◌∷◌, length, ap, ◌∙◌, arith}
use Rattle.fields.specs.Bytes.{numbers_bytes}
use Rattle.fields.specs.Shapes.{numbers_of}
use Rattle.fields.specs.Steps.{Put, Room}
use Rattle.fields.specs.declared.values.Numbers.{Numbers}
use Rattle.fields.specs.declared.writing.Writer.{Writer}
use Rattle.fields.proofs.Pieces.{length_numbers_in}
use Rattle.fields.proofs.Puts.{put_list, put_none}
use Rattle.fields.proofs.writing.Writer.list.Goals as goal

-- the numbers of a list, where it is known which
list_of : (l k : Numbers) (a b c : Writer) (n : ℕ) → l ≡ k → n ≡ length (numbers_of l) → Room a (1 + 8 * length (numbers_of l)) →
    Put a b (n ∷ []) → Put b c (numbers_bytes (numbers_of k)) → Put a c (length (numbers_of l) ∷ numbers_bytes (numbers_of l))
list_of l k a b c n is count room v w = put_list a b c (numbers_of l) n count room v (rw is w)

pub lent-requires : goal.lent-requires
lent-requires c =
    let bs : List ℕ = c.in-Lent.bytes.now in
    let l : length (numbers_of c.args.list) ≡ length bs / 8 = ap (λ x. length (numbers_of x)) c.in-Lent.is
    ∙ length_numbers_in _ bs in
    omega (arith, c.byte.ensures.wrote.ends, c.byte.ensures.wrote.long)

pub returns-in-None : goal.returns-in-None
unfolding numbers_bytes
returns-in-None c = list_of c.args.list _ _ _ _ _ c.in-None.is c.len.ensures c.requires.0 c.byte.ensures (put_none _)

pub returns-in-One : goal.returns-in-One
unfolding numbers_bytes
returns-in-One c = list_of c.args.list _ _ _ _ _ c.in-One.is c.len.ensures c.requires.0 c.byte.ensures c.number.ensures

pub returns-in-Name : goal.returns-in-Name
unfolding numbers_bytes
returns-in-Name c = list_of c.args.list _ _ _ _ _ c.in-Name.is c.len.ensures c.requires.0 c.byte.ensures c.words.ensures

pub returns-in-Registers : goal.returns-in-Registers
unfolding numbers_bytes
returns-in-Registers c = list_of c.args.list _ _ _ _ _ c.in-Registers.is c.len.ensures c.requires.0 c.byte.ensures c.words-in-Registers.ensures

pub returns-in-Lent : goal.returns-in-Lent
unfolding numbers_bytes
returns-in-Lent c = list_of c.args.list _ _ _ _ _ c.in-Lent.is c.len.ensures c.requires.0 c.byte.ensures c.lent.ensures
