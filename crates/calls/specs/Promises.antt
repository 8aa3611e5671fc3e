-- What is promised of the bytes of calls.
use Rattle.std.specs.Prelude.{◌≡◌, ℕ, List, Ok, Err}
use Rattle.fields.specs.Bytes.{Bytes}
use Rattle.fields.specs.Codec.{read_all, Ceases}
use Rattle.model.specs.Calls.{Call}
use Rattle.calls.specs.Table.{calls, Carried, read_call, write_call}

pub record CallsStand : Type 0 where
  -- what is written is read back
  pub back : (c : Call) → Carried c → read_call (write_call c) ≡ c
  -- there is no second spelling: bytes that are read as a call are the ones that are written for it
  pub only : (bs : List ℕ) (c : Call) → Bytes bs → read_all calls bs ≡ Ok c → write_call c ≡ bs
  -- where bytes cease to be a call is the length of the longest beginning of them that some call's bytes begin with
  pub place : (bs : List ℕ) (k : ℕ) → Bytes bs → read_all calls bs ≡ Err k → Ceases calls bs k
