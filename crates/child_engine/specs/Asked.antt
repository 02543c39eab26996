-- The requests to a host.
use Rattle.std.specs.Prelude.{◌≡◌, ℕ, zero, suc, List, [], ◌∷◌, ◌++◌, Option}
use Rattle.std.specs.Prelude.{Some, None, option_map, Result, IfErr, OnOk}
use Rattle.child_engine.specs.Places.{LogAsked}
use Rattle.child_engine.specs.declared.host.HostFault.{HostFault}
use Rattle.child_engine.specs.declared.host.HostFault.TheVariants as faults

-- The arguments of each engine that was to be started, and the place of each log that was to be opened,
-- in their order, whether that succeeded or failed, if the host keeps them. A call that had no
-- memory asks for nothing.
pub record Asked : Type 0 where
  pub engines : Option (List (List (List ℕ)))
  pub logs : Option (List LogAsked)

-- nothing was asked of a host that keeps it, or the host keeps nothing
abbrev pub none_asked : Asked
none_asked = record { engines = Some []; logs = Some [] }

abbrev pub not_kept : Asked
not_kept = record { engines = None; logs = None }

-- the list that is kept, and this so many times
abbrev pub with_many : {T : Type 0} → ℕ → T → Option (List T) → Option (List T)
with_many zero one kept = kept
with_many (suc n) one kept = option_map (λ all. all ++ one ∷ []) (with_many n one kept)

-- so many engines more were asked for, with these arguments
abbrev pub and_engines : ℕ → List (List ℕ) → Asked → Asked
and_engines n arguments asked = record asked { engines = with_many n arguments asked.engines }

-- so many logs more were asked for, at this place
abbrev pub and_logs : ℕ → LogAsked → Asked → Asked
and_logs n place asked = record asked { logs = with_many n place asked.logs }

-- It becomes this if the call succeeds or fails, and is as before if there was no memory.
pub record Asks {T : Type 0} (before asked now : Asked) (result : Result T HostFault) : Type 0 where
  pub ok : OnOk result (now ≡ asked)
  pub failed : IfErr result (λ e. e ≡ faults.Failed → now ≡ asked)
  pub memory : IfErr result (λ e. e ≡ faults.NoMemory → now ≡ before)
