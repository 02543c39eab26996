-- Without an open search and without a `go` that is accepted, no move is passed up.
use Rattle.std.proofs.Common.{◌≡◌, ℕ, Bool, true, false, cond, Option, Some, None, ◌∙◌, refl}
use Rattle.driver_state_machine.specs.declared.words.ToIface.{ToIface}
use Rattle.driver_state_machine.specs.declared.words.ToIface.TheVariants as ups
use Rattle.driver_state_machine.specs.declared.words.OpenSearch.{OpenSearch}
use Rattle.driver_state_machine.specs.declared.driver_state.DriverStage.{DriverStage}
use Rattle.driver_state_machine.specs.declared.driver_state.DriverStage.TheVariants as stages
use Rattle.driver_state_machine.specs.declared.driver_state.DriverState.{DriverState}
use Rattle.driver_state_machine.specs.declared.driver_state.DriverTurn.{DriverTurn}
use Rattle.driver_state_machine.specs.declared.driver_state.DriverCall.{DriverCall}
use Rattle.driver_state_machine.specs.declared.driver_state.DriverCall.TheVariants as calls
use Rattle.driver_state_machine.specs.DriverState.{driver_turn_of, quiet, is_awaited, resume_in, without_awaited}
use Rattle.driver_state_machine.specs.Laws.{is_accepted}
use Rattle.driver_state_machine.proofs.Counts.{talk_of}

-- neither an answer nor a thinking line
abbrev pub IsMute : ToIface → Type 0
IsMute (ups.Best best) = ⊥
IsMute (ups.Info thought) = ⊥
IsMute up = Unit {0}

pong_mute : (awaited : Bool) (r t : DriverState) → IsMute (cond awaited (resume_in None r) (quiet t)).action.up
pong_mute true r t = tt
pong_mute false r t = tt

open_mute : (gone : Bool) (awaited : Option ℕ) (pings : ℕ) (c : DriverCall) → is_accepted (talk_of stages.Open gone awaited pings None) c ≡ false → IsMute (driver_turn_of (talk_of stages.Open gone awaited pings None) c).action.up
unfolding driver_turn_of
open_mute gone awaited pings (calls.Go w) e = absurd (cc)
open_mute gone awaited pings (calls.Pong n) e = pong_mute (is_awaited awaited n) (without_awaited (talk_of stages.Open gone awaited pings None)) (talk_of stages.Open gone awaited pings None)
open_mute gone awaited pings calls.Other e = tt
open_mute gone awaited pings calls.Quit e = tt
open_mute gone awaited pings calls.Uci e = tt
open_mute gone awaited pings calls.IsReady e = tt
open_mute gone awaited pings calls.Stop e = tt
open_mute gone awaited pings calls.PonderHit e = tt
open_mute gone awaited pings (calls.Moved shown) e = tt
open_mute gone awaited pings calls.Resigned e = tt
open_mute gone awaited pings (calls.Thought thought) e = tt
open_mute gone awaited pings calls.Ended e = tt

fresh_mute : (gone : Bool) (awaited : Option ℕ) (pings : ℕ) (c : DriverCall) → IsMute (driver_turn_of (talk_of stages.Fresh gone awaited pings None) c).action.up
unfolding driver_turn_of
fresh_mute gone awaited pings (calls.Go w) = tt
fresh_mute gone awaited pings (calls.Pong n) = tt
fresh_mute gone awaited pings calls.Other = tt
fresh_mute gone awaited pings calls.Quit = tt
fresh_mute gone awaited pings calls.Uci = tt
fresh_mute gone awaited pings calls.IsReady = tt
fresh_mute gone awaited pings calls.Stop = tt
fresh_mute gone awaited pings calls.PonderHit = tt
fresh_mute gone awaited pings (calls.Moved shown) = tt
fresh_mute gone awaited pings calls.Resigned = tt
fresh_mute gone awaited pings (calls.Thought thought) = tt
fresh_mute gone awaited pings calls.Ended = tt

over_mute : (gone : Bool) (awaited : Option ℕ) (pings : ℕ) (c : DriverCall) → IsMute (driver_turn_of (talk_of stages.Over gone awaited pings None) c).action.up
unfolding driver_turn_of
over_mute gone awaited pings (calls.Go w) = tt
over_mute gone awaited pings (calls.Pong n) = tt
over_mute gone awaited pings calls.Other = tt
over_mute gone awaited pings calls.Quit = tt
over_mute gone awaited pings calls.Uci = tt
over_mute gone awaited pings calls.IsReady = tt
over_mute gone awaited pings calls.Stop = tt
over_mute gone awaited pings calls.PonderHit = tt
over_mute gone awaited pings (calls.Moved shown) = tt
over_mute gone awaited pings calls.Resigned = tt
over_mute gone awaited pings (calls.Thought thought) = tt
over_mute gone awaited pings calls.Ended = tt

mute_at : (stage : DriverStage) (gone : Bool) (awaited : Option ℕ) (pings : ℕ) (c : DriverCall) → is_accepted (talk_of stage gone awaited pings None) c ≡ false → IsMute (driver_turn_of (talk_of stage gone awaited pings None) c).action.up
mute_at stages.Open gone awaited pings c e = open_mute gone awaited pings c e
mute_at stages.Fresh gone awaited pings c e = fresh_mute gone awaited pings c
mute_at stages.Over gone awaited pings c e = over_mute gone awaited pings c

mute_by : (search : Option OpenSearch) (t : DriverState) (c : DriverCall) → t.search ≡ search → search ≡ None → is_accepted t c ≡ false → IsMute (driver_turn_of t c).action.up
mute_by search t c f n e = rebuilt t.stage t.gone t.awaited t.pings t.search (f ∙ n) c e
  where
    rebuilt : (stage : DriverStage) (gone : Bool) (awaited : Option ℕ) (pings : ℕ) (s : Option OpenSearch) → s ≡ None → (c : DriverCall) → is_accepted (talk_of stage gone awaited pings s) c ≡ false → IsMute (driver_turn_of (talk_of stage gone awaited pings s) c).action.up
    rebuilt stage gone awaited pings None n c e = mute_at stage gone awaited pings c e
    rebuilt stage gone awaited pings (Some s) n c e = absurd (cc)

pub mute : (t : DriverState) (c : DriverCall) → t.search ≡ None → is_accepted t c ≡ false → IsMute (driver_turn_of t c).action.up
mute t c n e = mute_by t.search t c refl n e
