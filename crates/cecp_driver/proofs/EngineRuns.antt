-- Along every run the engine searches on the ordered game.
use Rattle.std.proofs.Common.{◌≡◌, ℕ, Bool, true, false, cond, List, [], ◌∷◌, ◌++◌, Option, Some, None, refl, sym, ap, subst, ◌∙◌}
use Rattle.std.specs.List.{AllByRecursion}
use Rattle.chess_board.specs.declared.board.Move.{Move}
use Rattle.chess_board.specs.Position.{Position}
use Rattle.game_record.specs.Game.{Game, current_position, ply_of, with_ply}
use Rattle.line_io.specs.Event.{Event, Iface, IfaceEnd, Engine, EngineEnd}
use Rattle.driver_state_machine.specs.declared.words.BoardChange.{BoardChange}
use Rattle.driver_state_machine.specs.declared.words.BoardChange.TheVariants as boards
use Rattle.driver_state_machine.specs.declared.driver_state.DriverStage.{DriverStage}
use Rattle.driver_state_machine.specs.declared.driver_state.DriverStage.TheVariants as stages
use Rattle.driver_state_machine.specs.declared.driver_state.DriverCall.{DriverCall}
use Rattle.driver_state_machine.specs.declared.driver_state.DriverCall.TheVariants as calls
use Rattle.driver_state_machine.specs.DriverState.{driver_turn_of, is_free, is_thinking}
use Rattle.protocol_tokens.specs.Tokens.{first_token}
use Rattle.driver_state_machine.specs.declared.order_words.OrderWord.{OrderWord}
use Rattle.driver_state_machine.specs.declared.order_words.OrderWord.TheVariants as orders
use Rattle.driver_state_machine.specs.Words.{order_word_in as order_in}
use Rattle.driver_state_machine.specs.Says.{EngineMessageSeen, Move as SaysMove, Over, Pong, Report, Feature, says_in}
use Rattle.driver_state_machine.specs.Says as says
use Rattle.driver_state_machine.specs.Moves.{EngineMoveIs}
use Rattle.driver_state_machine.specs.Parts.{Feature as AFeature, feature_parts}
use Rattle.driver_state_machine.specs.Lines.{DownLine, Accepted, Rejected, lines_text}
use Rattle.cecp_driver.specs.declared.driver.DriverParts.{DriverParts}
use Rattle.cecp_driver.specs.SetUp.{SentGame}
use Rattle.cecp_driver.specs.Features.{rejects, feature_answers}
use Rattle.cecp_driver.specs.Actions.{sent_after_board, down_lines, sent_after_line}
use Rattle.cecp_driver.specs.Driver.{Orders, OrdersBy, DriverHears, HeardBy, EngineEndGives, GoIsAsked, EngineLineIsHeard, driver_after_call, driver_without_lines, driver_after_features, features_at, opening_driver, driver_after_position, placed_if, thought_call}
use Rattle.cecp_driver.specs.DriverInvariant.{DriverInvariant}
use Rattle.cecp_driver.specs.Script.{DriverEventGives, DriverTakesAll, IsPeerLine}
use Rattle.cecp_driver.specs.EngineGame.{AllOn, IsNoQuit, IsOwn, OwnBy, DriverQuitIsLast, SearchesOn, SearchesTheOrdered, Sets, interface_is_gone, set_by_all, with_own}
use Rattle.cecp_driver.proofs.Good.{CallFits, call_good}
use Rattle.cecp_driver.proofs.Lasting.{asked_fits, heard_fits}
use Rattle.cecp_driver.proofs.Acting.{acted_keeps, cleared_keeps, featured_keeps, placed_blank, placed_if_keeps}
use Rattle.cecp_driver.proofs.OwnMoves.{IsOther, moved_own, others_none, own_of}
use Rattle.cecp_driver.specs.Said.{EngineLineCanBeRead, IsName}
use Rattle.cecp_driver.proofs.Fed.{IsWhole, feature_whole}
use Rattle.cecp_driver.proofs.Names.{IsWholeFeature, parts_whole}
use Rattle.cecp_driver.proofs.Playing.{AreCalm, calm_fit, action_follows, action_unquit, follow_of, own_legal, unquit_of}
use Rattle.cecp_driver.proofs.Quitting.{call_quits}
use Rattle.cecp_driver.proofs.Pinged.{ping_fits}
use Rattle.cecp_driver.proofs.Sayable.{IsGame, action_said, ordered_is, start_game}
use Rattle.cecp_driver.proofs.EngineGames.{AreQuiet, IsKnown, action_on, quiet_searches}

-- ONE CALL

-- with the engine's own move
board_known : (board : BoardChange) (sent_game : SentGame) (g : Game) → IsKnown sent_game g → IsKnown (sent_after_board board sent_game) (with_own g (own_of board))
board_known boards.Same sent_game g k = k
board_known (boards.Moved m) sent_game g k = λ h. ap (λ (x : Game). with_ply x (ply_of m)) (k h)
board_known boards.Lost sent_game g k = λ h. absurd (cc)

-- the outcome of an event
abbrev Result : Event → DriverParts → DriverParts → Game → Type 0
Result event v v' g = (g' : Game) × (Sets event v v' g g' × (DriverInvariant v' × (IsKnown v'.sent_game g' × IsGame v'.game)))

call_sets : (event : Event) (v w : DriverParts) (c : DriverCall) (g : Game) → DriverInvariant w → w.talk.stage ≡ v.talk.stage → w.down.text ≡ [] → IsKnown w.sent_game g → IsGame w.game → CallFits w.game c → IsOwn event v (own_of (driver_turn_of w.talk c).action.board) → Result event v (driver_after_call w c) g
call_sets event v w c g keeps stage blank known game fits own =
    let action = (driver_turn_of w.talk c).action in
    let good = (call_good w.game w.sent_game w.talk c fits keeps.serves).1 in
    let lines = down_lines w.sent_game w.game w.has.usermove action.down in
    let on = action_on w.game g w.sent_game w.has.usermove action.down good known in
    let quits = call_quits w.game w.sent_game w.has.usermove w.talk c (λ q. action_unquit w.game g w.sent_game w.has.usermove action.down q game good known) in (
      with_own (set_by_all g lines) (own_of action.board),
      (
        record {
          lines = lines;
          written = ap (λ (x : List ℕ). x ++ lines_text lines) blank;
          said = action_said w.sent_game w.game w.has.usermove action.down game (ping_fits w.talk c);
          on = on.0;
          follow = action_follows w.game g w.sent_game w.has.usermove action.down game good known;
          quit = subst (λ (x : DriverStage). DriverQuitIsLast (interface_is_gone x) (interface_is_gone (driver_turn_of w.talk c).talk.stage) lines) stage quits;
          own = own_of action.board;
          is_own = own;
          own_legal = own_legal w.game g w.sent_game w.has.usermove w.talk c fits keeps.serves known;
          after = refl;
        },
        (acted_keeps w c keeps fits, (board_known action.board (sent_after_line w.game action.down w.sent_game) (set_by_all g lines) on.1, game)),
      ),
    )

-- AN ORDER

sent_by : (free : Bool) (v w : DriverParts) → w.sent_game ≡ v.sent_game → (cond free w v).sent_game ≡ v.sent_game
sent_by true v w e = e
sent_by false v w e = refl

placed_sent : (o : OrderWord) (v : DriverParts) (line : List ℕ) → (placed_if o v line).sent_game ≡ v.sent_game
placed_sent orders.Position v line = sent_by (is_free v.talk) v _ refl
placed_sent o v line = refl

placed_stage : (o : OrderWord) (v : DriverParts) (line : List ℕ) → (placed_if o (driver_without_lines v) line).talk.stage ≡ v.talk.stage
placed_stage orders.Position v line = stage_by (is_free v.talk) (driver_without_lines v) _ refl
  where
    stage_by : (free : Bool) (v w : DriverParts) → w.talk.stage ≡ v.talk.stage → (cond free w v).talk.stage ≡ v.talk.stage
    stage_by true v w e = e
    stage_by false v w e = refl
placed_stage o v line = refl

down_by : (free : Bool) (v w : DriverParts) → v.down.text ≡ [] → w.down.text ≡ [] → (cond free w v).down.text ≡ []
down_by true v w a b = b
down_by false v w a b = a

placed_down : (o : OrderWord) (v : DriverParts) (line : List ℕ) → (placed_if o (driver_without_lines v) line).down.text ≡ []
placed_down orders.Position v line = down_by (is_free v.talk) (driver_without_lines v) _ refl refl
placed_down o v line = refl

game_by : (free : Bool) (v w : DriverParts) → IsGame v.game → IsGame w.game → IsGame (cond free w v).game
game_by true v w h k = k
game_by false v w h k = h

placed_game : (o : OrderWord) (v : DriverParts) (line : List ℕ) → IsGame v.game → IsGame (placed_if o (driver_without_lines v) line).game
placed_game orders.Position v line h = game_by (is_free v.talk) (driver_without_lines v) _ h (ordered_is line)
placed_game o v line h = h

asked_other : (v : DriverParts) (line : List ℕ) (o : OrderWord) (c : DriverCall) → GoIsAsked v line o c → IsOther c
asked_other v line orders.Go c e = subst IsOther (sym e.1.1) tt
asked_other v line o c e = subst IsOther (sym e) tt

order_sets : (event : Event) (v v' : DriverParts) (line : List ℕ) (g : Game) → ((own : Option Move) → own ≡ None → IsOwn event v own) → DriverInvariant v → IsKnown v.sent_game g → IsGame v.game → Orders line v v' → Result event v v' g
order_sets event v v' line g own keeps known game h =
    let o = order_in (first_token line) in
    let w = placed_if o (driver_without_lines v) line in
    let sent_game : w.sent_game ≡ v.sent_game = placed_sent o (driver_without_lines v) line in
    subst (λ (x : DriverParts). Result event v x g) (sym h.after)
    (call_sets event v w h.call g (placed_if_keeps o (driver_without_lines v) line (cleared_keeps v keeps)) (placed_stage o v line) (placed_down o v line)
    (subst (λ (x : SentGame). IsKnown x g) (sym sent_game) known) (placed_game o v line game) (asked_fits w line o h.call h.asked)
    (own (own_of (driver_turn_of w.talk h.call).action.board) (others_none w.talk h.call (asked_other w line o h.call h.asked))))

-- A LINE OF THE ENGINE

answer_quiet : (b : Bool) (name : List ℕ) (ls : List DownLine) → AreQuiet ls → AreQuiet (cond b (Rejected name) (Accepted name) ∷ ls)
answer_quiet true name ls q = (tt, q)
answer_quiet false name ls q = (tt, q)

answers_quiet : (fs : List AFeature) → AreQuiet (feature_answers fs)
answers_quiet [] = tt
answers_quiet (f ∷ fs) = answer_quiet (rejects f) f.name (feature_answers fs) (answers_quiet fs)

answer_sets : (b : Bool) (name : List ℕ) (ls : List DownLine) (g : Game) → set_by_all g ls ≡ g → set_by_all g (cond b (Rejected name) (Accepted name) ∷ ls) ≡ g
answer_sets true name ls g e = e
answer_sets false name ls g e = e

answers_set : (fs : List AFeature) (g : Game) → set_by_all g (feature_answers fs) ≡ g
answers_set [] g = refl
answers_set (f ∷ fs) g = answer_sets (rejects f) f.name (feature_answers fs) g (answers_set fs g)

answer_said : (b : Bool) (name : List ℕ) (ls : List DownLine) → IsName name → AllByRecursion EngineLineCanBeRead ls → AllByRecursion EngineLineCanBeRead (cond b (Rejected name) (Accepted name) ∷ ls)
answer_said true name ls h k = (h, k)
answer_said false name ls h k = (h, k)

answers_said : (fs : List AFeature) → AllByRecursion IsWholeFeature fs → AllByRecursion EngineLineCanBeRead (feature_answers fs)
answers_said [] h = tt
answers_said (f ∷ fs) h = answer_said (rejects f) f.name (feature_answers fs) h.0.name (answers_said fs h.1)

answer_calm : (b : Bool) (name : List ℕ) (ls : List DownLine) → AreCalm ls → AreCalm (cond b (Rejected name) (Accepted name) ∷ ls)
answer_calm true name ls c = (tt, c)
answer_calm false name ls c = (tt, c)

answers_calm : (fs : List AFeature) → AreCalm (feature_answers fs)
answers_calm [] = tt
answers_calm (f ∷ fs) = answer_calm (rejects f) f.name (feature_answers fs) (answers_calm fs)

unquit_still : (before : Bool) (lines : List DownLine) → before ≡ false → AllByRecursion IsNoQuit lines → DriverQuitIsLast before before lines
unquit_still true lines e h = absurd (cc)
unquit_still false lines e h = h

quit_still : (before : Bool) → before ≡ true → DriverQuitIsLast before before []
quit_still true e = (refl, refl)
quit_still false e = absurd (cc)

-- the line that is written for features
answered : (event : Event) (v v' : DriverParts) (g : Game) (lines : List DownLine) → DriverInvariant v' → IsKnown v'.sent_game g → IsGame v'.game → AllByRecursion EngineLineCanBeRead lines → AreCalm lines → DriverQuitIsLast (interface_is_gone v.talk.stage) (interface_is_gone v'.talk.stage) lines
    → IsOwn event v None → v'.down.text ≡ lines_text lines → AreQuiet lines → set_by_all g lines ≡ g → Result event v v' g
answered event v v' g lines keeps known game said calm quits own written q s = (
  g,
  (
    record {
      lines = lines;
      written = written;
      said = said;
      on = quiet_searches v'.game g lines q;
      follow = follow_of g lines (calm_fit g lines calm);
      quit = quits;
      own = None;
      is_own = own;
      own_legal = tt;
      after = sym s;
    },
    (keeps, (known, game)),
  ),
)

feature_sets : (stage : DriverStage) (event : Event) (v : DriverParts) (text : List ℕ) (g : Game) → v.talk.stage ≡ stage → IsWhole text → DriverInvariant (features_at stage (driver_without_lines v) text) → IsKnown v.sent_game g → IsGame v.game → IsOwn event v None
    → Result event v (features_at stage (driver_without_lines v) text) g
feature_sets stages.Over event v text g e w keeps known game own = answered event v (driver_without_lines v) g [] keeps known game tt tt (quit_still (interface_is_gone v.talk.stage) (ap interface_is_gone e)) own refl tt refl
feature_sets stages.Open event v text g e w keeps known game own =
    let fs = feature_parts text in
    answered event v _ g (feature_answers fs) keeps known game (answers_said fs (parts_whole text w)) (answers_calm fs)
    (unquit_still (interface_is_gone v.talk.stage) (feature_answers fs) (ap interface_is_gone e) (unquit_of g (feature_answers fs) (calm_fit g (feature_answers fs) (answers_calm fs)))) own refl (answers_quiet fs) (answers_set fs g)
feature_sets stages.Fresh event v text g e w keeps known game own =
    let fs = feature_parts text in
    answered event v _ g (feature_answers fs) keeps known game (answers_said fs (parts_whole text w)) (answers_calm fs)
    (unquit_still (interface_is_gone v.talk.stage) (feature_answers fs) (ap interface_is_gone e) (unquit_of g (feature_answers fs) (calm_fit g (feature_answers fs) (answers_calm fs)))) own refl (answers_quiet fs) (answers_set fs g)

own_moved : (thinks : Bool) (p : Position) (text : List ℕ) (shown own : Option Move) → own ≡ cond thinks shown None → EngineMoveIs p text shown → OwnBy (SaysMove text) thinks p own
own_moved true p text shown own e i = subst (λ (x : Option Move). EngineMoveIs p text x) (sym e) i
own_moved false p text shown own e i = e

heard_call : (v v' : DriverParts) (line : List ℕ) (said : EngineMessageSeen) (c : DriverCall) (g : Game) → DriverInvariant v → IsKnown v.sent_game g → IsGame v.game → said ≡ says_in line → EngineLineIsHeard (driver_without_lines v) said c → OwnBy said (is_thinking v.talk) (current_position v.game) (own_of (driver_turn_of v.talk c).action.board) → v' ≡ driver_after_call (driver_without_lines v) c
    → Result (Engine line) v v' g
heard_call v v' line said c g keeps known game e heard own a =
    subst (λ (x : DriverParts). Result (Engine line) v x g) (sym a)
    (call_sets (Engine line) v (driver_without_lines v) c g (cleared_keeps v keeps) refl refl known game (heard_fits (driver_without_lines v) said c heard)
    (subst (λ (x : EngineMessageSeen). OwnBy x (is_thinking v.talk) (current_position v.game) (own_of (driver_turn_of v.talk c).action.board)) e own))

thought_other : (depth : ℕ) (score : _) (time nodes : ℕ) (best : Option Move) → IsOther (thought_call depth score time nodes best)
thought_other depth score time nodes None = tt
thought_other depth score time nodes (Some m) = tt

other_own : (v : DriverParts) (c d : DriverCall) → c ≡ d → IsOther d → own_of (driver_turn_of v.talk c).action.board ≡ None
other_own v c d e i = others_none v.talk c (subst IsOther (sym e) i)

heard_sets : (said : EngineMessageSeen) (v v' : DriverParts) (line : List ℕ) (g : Game) → IsWhole line → DriverInvariant v → IsKnown v.sent_game g → IsGame v.game → said ≡ says_in line → HeardBy said (driver_without_lines v) v' → Result (Engine line) v v' g
heard_sets (SaysMove text) v v' line g whole keeps known game e h =
    let shown : Option Move = h.1.0.0 in
    let own : own_of (driver_turn_of v.talk h.0).action.board ≡ cond (is_thinking v.talk) shown None = ap (λ (c : DriverCall). own_of (driver_turn_of v.talk c).action.board) h.1.0.1.1 ∙ moved_own v.talk shown in
    heard_call v v' line (SaysMove text) h.0 g keeps known game e h.1.0 (own_moved (is_thinking v.talk) (current_position v.game) text shown _ own h.1.0.1.0) h.1.1
heard_sets Over v v' line g whole keeps known game e h = heard_call v v' line Over h.0 g keeps known game e h.1.0 (other_own v h.0 calls.Resigned h.1.0 tt) h.1.1
heard_sets (Pong n) v v' line g whole keeps known game e h = heard_call v v' line (Pong n) h.0 g keeps known game e h.1.0 (other_own v h.0 (calls.Pong n) h.1.0 tt) h.1.1
heard_sets (Report depth score time nodes moves) v v' line g whole keeps known game e h =
    heard_call v v' line (Report depth score time nodes moves) h.0 g keeps known game e h.1.0
    (other_own v h.0 (thought_call depth score time nodes h.1.0.0) h.1.0.1.1 (thought_other depth score time nodes h.1.0.0)) h.1.1
heard_sets says.Other v v' line g whole keeps known game e h = heard_call v v' line says.Other h.0 g keeps known game e h.1.0 (other_own v h.0 calls.Other h.1.0 tt) h.1.1
heard_sets (Feature text) v v' line g whole keeps known game e h =
    subst (λ (x : DriverParts). Result (Engine line) v x g) (sym h)
    (feature_sets v.talk.stage (Engine line) v text g refl (feature_whole line text whole e) (featured_keeps (driver_without_lines v) text (cleared_keeps v keeps)) known game
    (subst (λ (x : EngineMessageSeen). OwnBy x (is_thinking v.talk) (current_position v.game) None) e refl))

end_sets : (v v' : DriverParts) (g : Game) → DriverInvariant v → IsKnown v.sent_game g → IsGame v.game → EngineEndGives v v' → Result EngineEnd v v' g
end_sets v v' g keeps known game h =
    subst (λ (x : DriverParts). Result EngineEnd v x g) (sym h)
    (call_sets EngineEnd v (driver_without_lines v) calls.Ended g (cleared_keeps v keeps) refl refl known game tt (others_none v.talk calls.Ended tt))

-- A RUN

event_sets : (event : Event) (v v' : DriverParts) (g : Game) → DriverInvariant v → IsKnown v.sent_game g → IsGame v.game → IsPeerLine event → DriverEventGives event v v' → Result event v v' g
event_sets (Iface line) v v' g keeps known game is h = order_sets (Iface line) v v' line g (λ own e. e) keeps known game h
event_sets IfaceEnd v v' g keeps known game is h = order_sets IfaceEnd v v' _ g (λ own e. e) keeps known game h
event_sets (Engine line) v v' g keeps known game is h = heard_sets (says_in line) v v' line g (record { no_feed = is.1; short = is.0 }) keeps known game refl h
event_sets EngineEnd v v' g keeps known game is h = end_sets v v' g keeps known game h
event_sets event v v' g keeps known game is h = absurd h

all_on : (events : List Event) (after : List DriverParts) (v : DriverParts) (g : Game) → DriverInvariant v → IsKnown v.sent_game g → IsGame v.game → DriverTakesAll v events after → AllOn v g events after
all_on [] after v g keeps known game h = tt
all_on (event ∷ events) [] v g keeps known game h = absurd h
all_on (event ∷ events) (v' ∷ later) v g keeps known game h =
    let r = event_sets event v v' g keeps known game h.0.is_line h.0.comes in
    (r.0, (r.1.0, all_on events later v' r.0 r.1.1.0 r.1.1.1.0 r.1.1.1.1 h.1))

pub opening_keeps : DriverInvariant opening_driver
opening_keeps = record { serves = tt; name_room = refl; up_room = refl; down_room = refl }

pub on_the_ordered : SearchesTheOrdered
on_the_ordered events after g h = all_on events after opening_driver g opening_keeps (λ e. absurd (cc)) start_game h
