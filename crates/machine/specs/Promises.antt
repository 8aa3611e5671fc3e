-- What is promised of the made-up machine.
use Rattle.model.specs.State.{Limits}
use Rattle.model.specs.Machine.{GoodMachine}
use Rattle.machine.specs.Came.{made_up_machine}

-- It is a good machine, whatever the limits: so confidentiality and integrity, which hold for any good machine, hold of the worlds in
-- which it runs.
abbrev pub GoodEverywhere : Type 0
GoodEverywhere = (l : Limits) → GoodMachine l made_up_machine
