-- One switch that opens all definitions of what the monitor does, for proofs by computation.
use Rattle.model.specs.Measured.{part_words, name}
use Rattle.model.specs.Pages.{◌is◌, phase_number, kind, kind_number, part_of, cell_in, thread_in, tables_in, slots_in, cell_is}
use Rattle.model.specs.Pages.{thread_goes, has_parts, tables_by, slot_in, is_nothing, closed_in, writable, in_cell, in_thread, in_top}
use Rattle.model.specs.Pages.{in_table, slot_put_in, table_put_by}
use Rattle.model.specs.State.{all_words, caller_by, is_owner_in, owner_by}
use Rattle.model.specs.Refusals.{open_there, system_checks, cell_checks, system_fits, cell_fits, checks, place}
use Rattle.model.specs.Monitor.{copied, system_edits, cell_edits, edits_or, caller_edits, changed, entered, first_registers}
use Rattle.model.specs.Monitor.{kept_registers, system_reply, name_in, cell_reply, caller_reply, reply, answer_or}
use Rattle.model.specs.Machine.{words_behind, write_behind, write_slots, write_table, write_tables, ended_by, ViewWell}
use Rattle.model.specs.Worlds.{cell_by, registers_after, PossibleCall, Possible, run_of, step, answer_of, act_answer}
use Rattle.model.specs.Observers.{among, gives, RunAgrees}

unfoldable pub OpenedUp : Type 0
unfolding part_words name ◌is◌ phase_number kind kind_number part_of cell_in thread_in tables_in slots_in cell_is thread_goes has_parts
    tables_by slot_in is_nothing closed_in writable in_cell in_thread in_top in_table slot_put_in table_put_by all_words caller_by
    is_owner_in owner_by open_there system_checks cell_checks system_fits cell_fits checks place copied system_edits cell_edits
    edits_or caller_edits changed entered first_registers kept_registers system_reply name_in cell_reply caller_reply reply answer_or
OpenedUp = Unit {0}

-- The same with machines and worlds.
unfoldable pub WorldsOpenedUp : Type 0
unfolding OpenedUp words_behind write_behind write_slots write_table write_tables ended_by ViewWell cell_by registers_after
    PossibleCall Possible run_of step answer_of act_answer among gives RunAgrees
WorldsOpenedUp = Unit {0}
