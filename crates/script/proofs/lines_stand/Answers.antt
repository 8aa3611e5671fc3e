use Rattle.calls.proofs.Stand.{calls_back}
use Rattle.script.proofs.Figures.{numbers_back, numbers_only}
use Rattle.script.proofs.Carrying.{line_carries}
use Rattle.script.proofs.lines_stand.Goals as goal

pub returns : goal.returns
returns c = record {
  numbers = numbers_back;
  only = numbers_only;
  carried = line_carries;
  back = λ text call e. calls_back call (line_carries text call e);
}
