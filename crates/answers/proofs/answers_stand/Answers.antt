use Rattle.fields.proofs.Lawful.{says_where}
use Rattle.answers.specs.Table.{answers}
use Rattle.answers.proofs.Stand.{lawful_answers, answers_back, answers_only, answers_brief}
use Rattle.answers.proofs.answers_stand.Goals as goal

pub returns : goal.returns
returns c = record { back = answers_back; only = answers_only; place = says_where answers lawful_answers; brief = answers_brief }
