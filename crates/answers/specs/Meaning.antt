-- What the code's answers mean: for each case its number and values.
use Rattle.model.specs.Answers as model
use Rattle.fields.specs.Shapes.{numbers_of}
use Rattle.answers.specs.declared.answer.Refusal.{Refusal}
use Rattle.answers.specs.declared.answer.Answer.{Answer}
use Rattle.answers.specs.declared.answer.Answer.TheVariants.{Refused, Done, Number, Enters, Told, Left}

abbrev pub refusal_of : Refusal → model.Refusal
refusal_of r = record { number = r.number; place = r.place }

abbrev pub answer_of : Answer → model.Answer
answer_of (Refused r) = model.refused (refusal_of r)
answer_of Done = model.done
answer_of (Number n) = model.number n
answer_of (Enters t rs) = model.enters t (numbers_of rs)
answer_of (Told e ns) = model.told e (numbers_of ns)
answer_of (Left j n) = model.left j n
