use Rattle.std.proofs.Common.{rules}
use Rattle.running.proofs.resume.Goals as goal

pub returns : goal.returns
returns c = (search rules, c.put_running.ensures, search rules, c.registers_at-registers.ensures)
