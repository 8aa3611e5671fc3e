-- What the rooms come to, as answers.
use Rattle.std.specs.Prelude.{[], Ok, Err, Result}
use Rattle.model.specs.Answers.{Answer, refused, done, enters, told}
use Rattle.answers.specs.Reasons.{number_of}
use Rattle.answers.specs.declared.reason.Reason.{Reason}
use Rattle.running.specs.declared.Entry.{Entry}

-- by a reason's number, at no place
abbrev pub refused_by : Reason → Answer
refused_by r = refused (record { number = number_of r; place = 0 })

abbrev pub done_by : Result (Unit {0}) Reason → Answer
done_by (Ok x) = done
done_by (Err r) = refused_by r

abbrev pub entered_by : Result Entry Reason → Answer
entered_by (Ok e) = enters e.top e.registers.words
entered_by (Err r) = refused_by r

abbrev pub told_by : Result (Unit {0}) Reason → Answer
told_by (Ok x) = told 0 []
told_by (Err r) = told (number_of r) []
