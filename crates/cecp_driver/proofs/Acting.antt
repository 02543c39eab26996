-- The output of a call can be written, and the driver keeps its invariant.
use Rattle.std.proofs.Common.{◌≡◌, ℕ, ◌+◌, ◌≤◌, Bool, true, false, cond, List, [], length, Option, Some, None, refl, sym, ap, subst, ◌∙◌, arith}
use Rattle.driver_state_machine.specs.declared.words.OpenSearch.{OpenSearch}
use Rattle.driver_state_machine.specs.declared.driver_state.DriverStage.{DriverStage}
use Rattle.driver_state_machine.specs.declared.driver_state.DriverStage.TheVariants as stages
use Rattle.driver_state_machine.specs.declared.driver_state.DriverCall.{DriverCall}
use Rattle.driver_state_machine.specs.declared.driver_state.DriverCall.TheVariants as calls
use Rattle.driver_state_machine.specs.DriverState.{driver_turn_of, is_free, is_free_at}
use Rattle.driver_state_machine.specs.declared.order_words.OrderWord.{OrderWord}
use Rattle.driver_state_machine.specs.declared.order_words.OrderWord.TheVariants as orders
use Rattle.protocol_tokens.specs.Tokens.{first_token}
use Rattle.driver_state_machine.specs.Words.{order_word_in as order_in}
use Rattle.driver_state_machine.specs.Says.{EngineMessageSeen, Move as SaysMove, Over, Pong, Report, Feature, says_in}
use Rattle.driver_state_machine.specs.Says as says
use Rattle.game_record.specs.Game.{Game, current_position}
use Rattle.chess_board.specs.declared.board.Move.{Move}
use Rattle.chess_board.specs.Position.{Position}
use Rattle.driver_state_machine.specs.Moves.{EngineMoveIs}
use Rattle.cecp_driver.specs.declared.driver.DriverParts.{DriverParts}
use Rattle.cecp_driver.specs.SetUp.{SentGame}
use Rattle.cecp_driver.specs.Driver.{driver_without_lines, driver_after_call, CanAct, driver_after_position, placed_if, driver_after_features, features_at, GoIsAsked, EngineLineIsHeard, OrdersBy, Orders, HeardBy, IsPlain, DriverHears}
use Rattle.cecp_driver.specs.DriverInvariant.{DriverInvariant, OpenSearchIsServed}
use Rattle.cecp_driver.proofs.Good.{CallFits, call_good, fits_down}
use Rattle.cecp_driver.proofs.Lasting.{can_say, asked_fits, heard_fits}

pub can_act : (v : DriverParts) (c : DriverCall) → DriverInvariant v → length v.up.text ≡ 0 → length v.down.text ≡ 0 → CallFits v.game c → CanAct v c
can_act v c k up down f =
    let good = call_good v.game v.sent_game v.talk c f k.serves in
    record {
      say = can_say v.game (driver_turn_of v.talk c).action.up good.0;
      fits = fits_down v.game v.sent_game (driver_turn_of v.talk c).action.down good.1;
      push = good.2;
      up = let r = k.up_room in omega arith;
      down = let r = k.down_room in omega arith;
    }

pub acted_keeps : (v : DriverParts) (c : DriverCall) → DriverInvariant v → CallFits v.game c → DriverInvariant (driver_after_call v c)
acted_keeps v c k f = record {
  serves = (call_good v.game v.sent_game v.talk c f k.serves).3;
  name_room = k.name_room;
  up_room = k.up_room;
  down_room = k.down_room;
}

pub cleared_keeps : (v : DriverParts) → DriverInvariant v → DriverInvariant (driver_without_lines v)
cleared_keeps v k = record { serves = k.serves; name_room = k.name_room; up_room = k.up_room; down_room = k.down_room }

-- where a position is accepted, no search is open
free_serves : (stage : DriverStage) (search : Option OpenSearch) (game : Game) (sent_game : SentGame) → is_free_at stage search ≡ true → OpenSearchIsServed search game sent_game
free_serves stages.Open None game sent_game e = tt
free_serves stages.Open (Some s) game sent_game e = absurd (cc)
free_serves stages.Fresh search game sent_game e = absurd (cc)
free_serves stages.Over search game sent_game e = absurd (cc)

place_by : (free : Bool) (v w : DriverParts) → DriverInvariant v → is_free v.talk ≡ free → (free ≡ true → DriverInvariant w) → DriverInvariant (cond free w v)
place_by true v w k e f = f refl
place_by false v w k e f = k

pub placed_keeps : (v : DriverParts) (line : List ℕ) → DriverInvariant v → DriverInvariant (driver_after_position v line)
placed_keeps v line k = place_by (is_free v.talk) v _ k refl
    (λ e. record { serves = free_serves v.talk.stage v.talk.search _ v.sent_game e; name_room = k.name_room; up_room = k.up_room; down_room = k.down_room })

pub placed_if_keeps : (o : OrderWord) (v : DriverParts) (line : List ℕ) → DriverInvariant v → DriverInvariant (placed_if o v line)
placed_if_keeps orders.Position v line k = placed_keeps v line k
placed_if_keeps o v line k = k

abbrev IsBlank : DriverParts → Type 0
IsBlank v = (length v.up.text ≡ 0) × (length v.down.text ≡ 0)

blank_by : (free : Bool) (v w : DriverParts) → IsBlank v → IsBlank w → IsBlank (cond free w v)
blank_by true v w a b = b
blank_by false v w a b = a

-- a position gives nothing
pub placed_blank : (o : OrderWord) (v : DriverParts) (line : List ℕ) → IsBlank (placed_if o (driver_without_lines v) line)
placed_blank orders.Position v line = blank_by (is_free v.talk) (driver_without_lines v) _ (refl, refl) (refl, refl)
placed_blank o v line = (refl, refl)

features_keep : (stage : DriverStage) (v : DriverParts) (text : List ℕ) → DriverInvariant v → DriverInvariant (features_at stage v text)
features_keep stages.Over v text k = k
features_keep stages.Open v text k = record { serves = k.serves; name_room = k.name_room; up_room = k.up_room; down_room = k.down_room }
features_keep stages.Fresh v text k = record { serves = k.serves; name_room = k.name_room; up_room = k.up_room; down_room = k.down_room }

pub featured_keeps : (v : DriverParts) (text : List ℕ) → DriverInvariant v → DriverInvariant (driver_after_features v text)
featured_keeps v text k = features_keep v.talk.stage v text k

-- AN ORDER

pub order_ready : (v w : DriverParts) (line : List ℕ) (o : OrderWord) (call : DriverCall) → DriverInvariant v → w ≡ placed_if o (driver_without_lines v) line → GoIsAsked w line o call → CanAct w call
order_ready v w line o call k e asked =
    let keeps : DriverInvariant w = subst DriverInvariant (sym e) (placed_if_keeps o (driver_without_lines v) line (cleared_keeps v k)) in
    let blank : IsBlank w = subst IsBlank (sym e) (placed_blank o v line) in
    can_act w call keeps blank.0 blank.1 (asked_fits w line o call asked)

pub order_keeps : (v w v' : DriverParts) (line : List ℕ) (o : OrderWord) (call : DriverCall) → DriverInvariant v → w ≡ placed_if o (driver_without_lines v) line → GoIsAsked w line o call → v' ≡ driver_after_call w call → DriverInvariant v'
order_keeps v w v' line o call k e asked a =
    let keeps : DriverInvariant w = subst DriverInvariant (sym e) (placed_if_keeps o (driver_without_lines v) line (cleared_keeps v k)) in
    subst DriverInvariant (sym a) (acted_keeps w call keeps (asked_fits w line o call asked))

orders_at : (v v' : DriverParts) (line : List ℕ) (o p : OrderWord) (w : DriverParts) (call : DriverCall) → o ≡ p → w ≡ placed_if o (driver_without_lines v) line → GoIsAsked w line o call → v' ≡ driver_after_call w call → OrdersBy p line v v'
orders_at v v' line o p w call e f asked a =
    let at : OrdersBy o line v v' = record {
      call = call;
      asked = subst (λ (x : DriverParts). GoIsAsked x line o call) f asked;
      after = a ∙ ap (λ (x : DriverParts). driver_after_call x call) f;
    } in
    subst (λ (x : OrderWord). OrdersBy x line v v') e at

pub order_done : (v w v' : DriverParts) (line : List ℕ) (o : OrderWord) (call : DriverCall) → o ≡ order_in (first_token line) → w ≡ placed_if o (driver_without_lines v) line → GoIsAsked w line o call → v' ≡ driver_after_call w call → Orders line v v'
order_done v w v' line o call e f asked a = orders_at v v' line o (order_in (first_token line)) w call e f asked a

-- A LINE OF THE ENGINE

pub from_cleared : (v w : DriverParts) → DriverInvariant v → w ≡ driver_without_lines v → DriverInvariant w
from_cleared v w k e = subst DriverInvariant (sym e) (cleared_keeps v k)

pub end_ready : (v w : DriverParts) → DriverInvariant v → w ≡ driver_without_lines v → CanAct w calls.Ended
end_ready v w k e =
    let blank : IsBlank w = subst IsBlank (sym e) (refl, refl) in
    can_act w calls.Ended (from_cleared v w k e) blank.0 blank.1 tt

pub end_keeps : (v w v' : DriverParts) → DriverInvariant v → w ≡ driver_without_lines v → v' ≡ driver_after_call w calls.Ended → DriverInvariant v'
end_keeps v w v' k e a = subst DriverInvariant (sym a) (acted_keeps w calls.Ended (from_cleared v w k e) tt)

pub plain_done : (said : EngineMessageSeen) (w v' : DriverParts) (call : DriverCall) → IsPlain said → EngineLineIsHeard w said call → v' ≡ driver_after_call w call → HeardBy said w v'
plain_done (SaysMove text) w v' call p heard a = (call, (heard, a))
plain_done Over w v' call p heard a = (call, (heard, a))
plain_done (Pong n) w v' call p heard a = (call, (heard, a))
plain_done (Report depth score time nodes moves) w v' call p heard a = (call, (heard, a))
plain_done (Feature text) w v' call p heard a = absurd p
plain_done says.Other w v' call p heard a = (call, (heard, a))

pub heard_at : (v w v' : DriverParts) (line : List ℕ) (said : EngineMessageSeen) → said ≡ says_in line → w ≡ driver_without_lines v → HeardBy said w v' → DriverHears line v v'
heard_at v w v' line said e f h =
    let at : HeardBy said (driver_without_lines v) v' = subst (λ (x : DriverParts). HeardBy said x v') f h in
    subst (λ (x : EngineMessageSeen). HeardBy x (driver_without_lines v) v') e at

pub features_done : (v w v' : DriverParts) (line text : List ℕ) → Feature text ≡ says_in line → w ≡ driver_without_lines v → v' ≡ driver_after_features w text → DriverHears line v v'
features_done v w v' line text e f a =
    let at : HeardBy (Feature text) (driver_without_lines v) v' = a ∙ ap (λ (x : DriverParts). driver_after_features x text) f in
    subst (λ (x : EngineMessageSeen). HeardBy x (driver_without_lines v) v') e at

pub features_keeps : (v w v' : DriverParts) (text : List ℕ) → DriverInvariant v → w ≡ driver_without_lines v → v' ≡ driver_after_features w text → DriverInvariant v'
features_keeps v w v' text k f a = subst DriverInvariant (sym a) (featured_keeps w text (subst DriverInvariant (sym f) (cleared_keeps v k)))

-- a move that the engine shows
pub heard_move : (v : DriverParts) (said : EngineMessageSeen) (p : Position) (text : List ℕ) (shown : Option Move) → p ≡ current_position v.game → said ≡ SaysMove text → EngineMoveIs p text shown → EngineLineIsHeard v said (calls.Moved shown)
heard_move v said p text shown at e i = subst (λ (x : EngineMessageSeen). EngineLineIsHeard v x (calls.Moved shown)) (sym e) (shown, (subst (λ (q : Position). EngineMoveIs q text shown) at i, refl))
