use Rattle.fields.proofs.Lawful.{says_where}
use Rattle.calls.specs.Table.{calls}
use Rattle.calls.proofs.Stand.{lawful_calls, calls_back, calls_only}
use Rattle.calls.proofs.calls_stand.Goals as goal

pub returns : goal.returns
returns c = record { back = calls_back; only = calls_only; place = says_where calls lawful_calls }
