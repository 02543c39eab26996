-- The output of every run of a driver to the interface.
use Rattle.std.proofs.Common.{◌≡◌, ℕ, ◌+◌, ◌⊎◌, inl, inr, Bool, true, false, cond, ◌&&◌, List, [], ◌∷◌, ◌++◌, Option, Some, None, refl, sym, ap, subst, ◌∙◌, append_assoc, append-nil, arith}
use Rattle.std.specs.Prelude.{codes}
use Rattle.std.specs.List.{AllByRecursion}
use Rattle.chess_board.specs.declared.board.Move.{Move}
use Rattle.chess_board.specs.Position.{Position}
use Rattle.chess_board.proofs.LegalMoves.{is_legal}
use Rattle.game_record.specs.Game.{Game, current_position}
use Rattle.line_io.specs.Event.{Event, Iface, IfaceEnd, Engine, EngineEnd}
use Rattle.protocol_tokens.specs.Tokens.{first_token}
use Rattle.driver_state_machine.specs.declared.words.OpenSearch.{OpenSearch}
use Rattle.driver_state_machine.specs.declared.words.AfterAnalysis.TheVariants.{Answer}
use Rattle.driver_state_machine.specs.declared.words.Phase.{Phase}
use Rattle.driver_state_machine.specs.declared.words.Phase.TheVariants.{Rests, Leaves}
use Rattle.driver_state_machine.specs.declared.words.ToIface.{ToIface}
use Rattle.driver_state_machine.specs.declared.words.ToIface.TheVariants as ups
use Rattle.driver_state_machine.specs.declared.driver_state.DriverStage.{DriverStage}
use Rattle.driver_state_machine.specs.declared.driver_state.DriverStage.TheVariants as stages
use Rattle.driver_state_machine.specs.declared.driver_state.DriverState.{DriverState}
use Rattle.driver_state_machine.specs.declared.driver_state.DriverTurn.{DriverTurn}
use Rattle.driver_state_machine.specs.declared.driver_state.Reach.{Reach}
use Rattle.driver_state_machine.specs.declared.driver_state.Reach.TheVariants as reaches
use Rattle.driver_state_machine.specs.declared.driver_state.WantedSearch.{WantedSearch}
use Rattle.driver_state_machine.specs.declared.driver_state.DriverCall.{DriverCall}
use Rattle.driver_state_machine.specs.declared.driver_state.DriverCall.TheVariants as calls
use Rattle.driver_state_machine.specs.DriverState.{driver_turn_of, is_free, is_free_at, is_thinking, quiet, search_at}
use Rattle.driver_state_machine.specs.Laws.{is_accepted, is_bestmove, is_search_open, one_if, open_count}
use Rattle.driver_state_machine.specs.Laws as talks
use Rattle.driver_state_machine.proofs.Counts.{call_counts}
use Rattle.driver_state_machine.proofs.Silent.{moves_are_ignored, no_move_has_cause}
use Rattle.driver_state_machine.specs.declared.order_words.OrderWord.{OrderWord}
use Rattle.driver_state_machine.specs.declared.order_words.OrderWord.TheVariants as orders
use Rattle.driver_state_machine.specs.Words.{order_word_in as order_in}
use Rattle.driver_state_machine.specs.Says.{EngineMessageSeen, Move as SaysMove, Over, Pong, Report, Feature, says_in}
use Rattle.driver_state_machine.specs.Says as says
use Rattle.driver_state_machine.specs.Moves.{IsFirstMove, EngineMoveIs}
use Rattle.driver_state_machine.specs.Parts.{Feature as AFeature, feature_parts}
use Rattle.cecp_driver.specs.declared.driver.DriverParts.{DriverParts}
use Rattle.cecp_driver.specs.declared.features.HasFeatures.{HasFeatures}
use Rattle.cecp_driver.specs.Features.{greets, greeting, greetings, has_after, name_after}
use Rattle.cecp_driver.specs.Actions.{up_text}
use Rattle.cecp_driver.specs.Driver.{Orders, DriverHears, HeardBy, EngineEndGives, GoIsAsked, EngineLineIsHeard, Wants, driver_after_call, driver_without_lines, features_at, opening_driver, driver_after_position, placed_if, driver_after_turn, thought_call}
use Rattle.cecp_driver.specs.DriverInvariant.{DriverInvariant, IsMoveless, OpenSearchIsServed, ServesKept}
use Rattle.cecp_driver.specs.SetUp.{SentGame}
use Rattle.cecp_driver.specs.Script.{DriverEventGives, DriverTakesAll, IsPeerLine, script_text}
use Rattle.cecp_driver.specs.Runs.{UpLine, ReadyOk, UciOk, Named, Reports, BestMove, AllGiven, CannotSearch, EndsMoveless, EventGave, GivesUp, BestmoveHasCause, HasLegalMove, DriverHasNoMove, IgnoredBy, IsIgnored, NameIsOneLine, IsScriptOfDrive, IsSoundDrive, RunsAreSound, accepts_go, answer_count, game_asked, is_go, up_line_text, up_lines_text}
use Rattle.cecp_driver.proofs.Good.{CallFits, SaysLegal, call_good}
use Rattle.cecp_driver.proofs.Lasting.{asked_fits, heard_fits}
use Rattle.cecp_driver.proofs.Acting.{acted_keeps, cleared_keeps, featured_keeps, placed_if_keeps}
use Rattle.cecp_driver.proofs.EngineRuns.{on_the_ordered, opening_keeps}
use Rattle.cecp_driver.proofs.Called.{IsCalled, event_called, name_whole}
use Rattle.cecp_driver.proofs.Fed.{IsWhole, feature_whole}
use Rattle.cecp_driver.proofs.Names.{IsWholeFeature, parts_whole}
use Rattle.cecp_driver.proofs.Mute.{IsMute, mute}
use Rattle.cecp_driver.proofs.Busy.{busy_runs}

-- WHAT A DEED GIVES UP

abbrev up_lines : ToIface → List UpLine
up_lines ups.Nothing = []
up_lines ups.Ready = ReadyOk ∷ []
up_lines (ups.Best best) = BestMove best ∷ []
up_lines (ups.Info thought) = Reports thought ∷ []

up_written : (up : ToIface) → up_text up ≡ up_lines_text (up_lines up)
up_written ups.Nothing = refl
up_written ups.Ready = sym (append-nil (up_line_text ReadyOk))
up_written (ups.Best best) = sym (append-nil (up_line_text (BestMove best)))
up_written (ups.Info thought) = sym (append-nil (up_line_text (Reports thought)))

answers_of : (up : ToIface) → answer_count (up_lines up) ≡ one_if (is_bestmove up)
answers_of ups.Nothing = refl
answers_of ups.Ready = refl
answers_of (ups.Best best) = refl
answers_of (ups.Info thought) = refl

one_lines : (up : ToIface) → AllByRecursion NameIsOneLine (up_lines up)
one_lines ups.Nothing = tt
one_lines ups.Ready = (tt, tt)
one_lines (ups.Best best) = (tt, tt)
one_lines (ups.Info thought) = (tt, tt)

legal_in : (g : Game) (up : ToIface) → SaysLegal g up → AllByRecursion (HasLegalMove (Some g)) (up_lines up)
legal_in g ups.Nothing h = tt
legal_in g ups.Ready h = (tt, tt)
legal_in g (ups.Best None) h = (tt, tt)
legal_in g (ups.Best (Some m)) h = (is_legal (current_position g) m h, tt)
legal_in g (ups.Info thought) h = (is_legal (current_position g) thought.best h, tt)

mute_in : (asked : Option Game) (up : ToIface) → IsMute up → AllByRecursion (HasLegalMove asked) (up_lines up)
mute_in asked ups.Nothing i = tt
mute_in asked ups.Ready i = (tt, tt)
mute_in asked (ups.Best best) i = absurd i
mute_in asked (ups.Info thought) i = absurd i

causes_of : (event : Event) (v : DriverParts) (up : ToIface) → (up ≡ ups.Best None → DriverHasNoMove event v) → AllByRecursion (BestmoveHasCause event v) (up_lines up)
causes_of event v ups.Nothing h = tt
causes_of event v ups.Ready h = (tt, tt)
causes_of event v (ups.Best None) h = (h refl, tt)
causes_of event v (ups.Best (Some m)) h = (tt, tt)
causes_of event v (ups.Info thought) h = (tt, tt)

-- ONE CALL

-- the game of an open search is the one that its `go` asked for
abbrev IsKnown : DriverParts → Option Game → Type 0
IsKnown v asked = is_search_open v.talk.search ≡ true → asked ≡ Some v.game

-- the outcome of an event
abbrev Result : Event → DriverParts → DriverParts → Option Game → ℕ → ℕ → Type 0
Result event v v' asked gos answers = EventGave event v v' asked gos answers × (DriverInvariant v' × IsKnown v' (game_asked event v asked))

closed_none : (search : Option OpenSearch) → is_search_open search ≡ false → search ≡ None
closed_none None e = refl
closed_none (Some s) e = absurd (cc)

none_closed : (search : Option OpenSearch) → open_count search ≡ 0 → is_search_open search ≡ true → ⊥
none_closed None z e = cc
none_closed (Some s) z e = cc

-- either the game is the one that was asked for, or no move is passed up and no search is open
abbrev AsksOrMute : Option Game → Game → DriverTurn → Type 0
AsksOrMute asked g r = (asked ≡ Some g) ⊎ (IsMute r.action.up × (open_count r.talk.search ≡ 0))

asks_by : (accepts opened : Bool) (event : Event) (v w : DriverParts) (c : DriverCall) (asked : Option Game) → accepts_go event v ≡ accepts → is_search_open v.talk.search ≡ opened → w.talk ≡ v.talk → is_accepted w.talk c ≡ accepts
    → (is_search_open v.talk.search ≡ true → w.game ≡ v.game) → (accepts_go event v ≡ true → w.game ≡ v.game) → IsKnown v asked → AsksOrMute (game_asked event v asked) w.game (driver_turn_of w.talk c)
asks_by true opened event v w c asked a o talk accepted stays asks known =
    inl (ap (λ (b : Bool). cond b (Some v.game) asked) a ∙ ap (λ (g : Game). Some g) (sym (asks a)))
asks_by false true event v w c asked a o talk accepted stays asks known =
    inl (ap (λ (b : Bool). cond b (Some v.game) asked) a ∙ known o ∙ ap (λ (g : Game). Some g) (sym (stays o)))
asks_by false false event v w c asked a o talk accepted stays asks known =
    let none : w.talk.search ≡ None = ap (λ (t : DriverState). t.search) talk ∙ closed_none v.talk.search o in
    let counts = call_counts w.talk c in
    let zero : one_if (is_accepted w.talk c) ≡ 0 = ap one_if accepted in
    let shut : open_count w.talk.search ≡ 0 = ap open_count none in
    inr (mute w.talk c none accepted, omega (arith, counts, zero, shut))

moves_by : (asked : Option Game) (g : Game) (r : DriverTurn) → AsksOrMute asked g r → SaysLegal g r.action.up → AllByRecursion (HasLegalMove asked) (up_lines r.action.up)
moves_by asked g r (inl e) h = subst (λ (a : Option Game). AllByRecursion (HasLegalMove a) (up_lines r.action.up)) (sym e) (legal_in g r.action.up h)
moves_by asked g r (inr m) h = mute_in asked r.action.up m.0

known_by : (asked : Option Game) (g : Game) (r : DriverTurn) → AsksOrMute asked g r → is_search_open r.talk.search ≡ true → asked ≡ Some g
known_by asked g r (inl e) o = e
known_by asked g r (inr m) o = absurd (none_closed r.talk.search m.1 o)

call_given : (event : Event) (v w : DriverParts) (c : DriverCall) (asked : Option Game) (gos answers : ℕ) → DriverInvariant w → w.up.text ≡ [] → CallFits w.game c → w.talk ≡ v.talk → is_accepted w.talk c ≡ accepts_go event v
    → (is_search_open v.talk.search ≡ true → w.game ≡ v.game) → (accepts_go event v ≡ true → w.game ≡ v.game) → (talks.SearchHasNoMove w.talk c → DriverHasNoMove event v) → IsIgnored event v (driver_after_call w c)
    → IsKnown v asked → gos ≡ answers + open_count v.talk.search → Result event v (driver_after_call w c) asked gos answers
call_given event v w c asked gos answers keeps blank fits talk accepted stays asks cause ignored known counted =
    let r = driver_turn_of w.talk c in
    let up = r.action.up in
    let good = call_good w.game w.sent_game w.talk c fits keeps.serves in
    let which = asks_by (accepts_go event v) (is_search_open v.talk.search) event v w c asked refl refl talk accepted stays asks known in
    let counts = call_counts w.talk c in
    let same : open_count w.talk.search ≡ open_count v.talk.search = ap (λ (t : DriverState). open_count t.search) talk in
    let one : one_if (is_accepted w.talk c) ≡ one_if (accepts_go event v) = ap one_if accepted in
    let said = answers_of up in (
      record {
        lines = up_lines up;
        written = ap (λ (x : List ℕ). x ++ up_text up) blank ∙ up_written up;
        one_line = one_lines up;
        legal_moves = moves_by (game_asked event v asked) w.game r which good.0;
        causes = causes_of event v up (λ e. cause (no_move_has_cause w.talk c e));
        once = omega (arith, counts, same, one, said, counted);
        stays = stays;
        ignored = ignored;
      },
      (acted_keeps w c keeps fits, known_by (game_asked event v asked) w.game r which),
    )

-- AN ORDER

talk_by : (free : Bool) (v w : DriverParts) → w.talk ≡ v.talk → (cond free w v).talk ≡ v.talk
talk_by true v w e = e
talk_by false v w e = refl

placed_talk : (o : OrderWord) (v : DriverParts) (line : List ℕ) → (placed_if o (driver_without_lines v) line).talk ≡ v.talk
placed_talk orders.Position v line = talk_by (is_free v.talk) (driver_without_lines v) _ refl
placed_talk o v line = refl

up_by : (free : Bool) (v w : DriverParts) → v.up.text ≡ [] → w.up.text ≡ [] → (cond free w v).up.text ≡ []
up_by true v w a b = b
up_by false v w a b = a

placed_up : (o : OrderWord) (v : DriverParts) (line : List ℕ) → (placed_if o (driver_without_lines v) line).up.text ≡ []
placed_up orders.Position v line = up_by (is_free v.talk) (driver_without_lines v) _ refl refl
placed_up o v line = refl

open_busy : (stage : DriverStage) (search : Option OpenSearch) → is_search_open search ≡ true → is_free_at stage search ≡ false
open_busy stages.Open None e = absurd (cc)
open_busy stages.Open (Some s) e = refl
open_busy stages.Fresh search e = refl
open_busy stages.Over search e = refl

game_by : (free : Bool) (v w : DriverParts) → free ≡ false → (cond free w v).game ≡ v.game
game_by true v w e = absurd (cc)
game_by false v w e = refl

placed_stays : (o : OrderWord) (v : DriverParts) (line : List ℕ) → is_search_open v.talk.search ≡ true → (placed_if o (driver_without_lines v) line).game ≡ v.game
placed_stays orders.Position v line e = game_by (is_free v.talk) (driver_without_lines v) _ (open_busy v.talk.stage v.talk.search e)
placed_stays o v line e = refl

placed_asks : (o : OrderWord) (v : DriverParts) (line : List ℕ) → (is_go o && is_free v.talk) ≡ true → (placed_if o (driver_without_lines v) line).game ≡ v.game
placed_asks orders.Position v line e = absurd (cc)
placed_asks o v line e = refl

accepted_is : (o : OrderWord) (v w : DriverParts) (line : List ℕ) (c : DriverCall) → w.talk ≡ v.talk → GoIsAsked w line o c → is_accepted w.talk c ≡ (is_go o && is_free v.talk)
accepted_is orders.Go v w line c e a = ap (is_accepted w.talk) a.1.1 ∙ ap (λ (t : DriverState). is_free t) e
accepted_is o v w line c e a = ap (is_accepted w.talk) a

cannot : (v : DriverParts) (line : List ℕ) (w : WantedSearch) → Wants (driver_without_lines v) line w → talks.HasNoSearch v.talk w → CannotSearch line v
cannot v line w wants (inl e) = inl (sym wants.kind ∙ e.1, subst (λ (x : Option Move). IsFirstMove (current_position v.game) x) e.0 wants.first)
cannot v line w wants (inr (inl gone)) = inr (inl gone)
cannot v line w wants (inr (inr none)) = inr (inr (sym wants.reach ∙ none))

kept_moveless : (kept : Option Move) (p : Phase) (g : Game) (sent_game : SentGame) → ServesKept kept p g sent_game → kept ≡ None → IsMoveless g
kept_moveless None Rests g sent_game h e = h
kept_moveless None p g sent_game h e = absurd h
kept_moveless (Some m) p g sent_game h e = absurd (cc)

rests_moveless : (stage : DriverStage) (search : Option OpenSearch) (g : Game) (sent_game : SentGame) → OpenSearchIsServed search g sent_game → talks.KeepsNoneIn Rests (search_at stage search) → (is_search_open (search_at stage search) ≡ true) × IsMoveless g
rests_moveless stages.Open None g sent_game h k = absurd k
rests_moveless stages.Open (Some s) g sent_game h k = (refl, kept_moveless s.kept s.phase g sent_game h k.0)
rests_moveless stages.Fresh search g sent_game h k = absurd k
rests_moveless stages.Over search g sent_game h k = absurd k

order_cause : (o : OrderWord) (v : DriverParts) (line : List ℕ) (c : DriverCall) → OpenSearchIsServed v.talk.search v.game v.sent_game → GoIsAsked (placed_if o (driver_without_lines v) line) line o c → talks.SearchHasNoMove (placed_if o (driver_without_lines v) line).talk c
    → (((is_go o && is_free v.talk) ≡ true) × CannotSearch line v) ⊎ EndsMoveless o v
order_cause orders.Go v line c s a lacks = let h = subst (talks.SearchHasNoMove v.talk) a.1.1 lacks in inl (h.0, cannot v line a.0 a.1.0 h.1)
order_cause orders.Quit v line c s a lacks = absurd (subst (talks.SearchHasNoMove v.talk) a lacks)
order_cause orders.Uci v line c s a lacks = absurd (subst (talks.SearchHasNoMove v.talk) a lacks)
order_cause orders.IsReady v line c s a lacks = absurd (subst (talks.SearchHasNoMove v.talk) a lacks)
order_cause orders.Stop v line c s a lacks = inr (rests_moveless v.talk.stage v.talk.search v.game v.sent_game s (subst (talks.SearchHasNoMove v.talk) a lacks))
order_cause orders.PonderHit v line c s a lacks = inr (rests_moveless v.talk.stage v.talk.search v.game v.sent_game s (subst (talks.SearchHasNoMove v.talk) a lacks))
order_cause orders.Position v line c s a lacks = absurd (subst (talks.SearchHasNoMove (driver_after_position (driver_without_lines v) line).talk) a lacks)
order_cause orders.Other v line c s a lacks = absurd (subst (talks.SearchHasNoMove v.talk) a lacks)

order_given : (v v' : DriverParts) (line : List ℕ) (asked : Option Game) (gos answers : ℕ) → DriverInvariant v → IsKnown v asked → gos ≡ answers + open_count v.talk.search → Orders line v v' → Result (Iface line) v v' asked gos answers
order_given v v' line asked gos answers keeps known counted h =
    let o = order_in (first_token line) in
    let w = placed_if o (driver_without_lines v) line in
    let talk : w.talk ≡ v.talk = placed_talk o v line in
    subst (λ (x : DriverParts). Result (Iface line) v x asked gos answers) (sym h.after)
    (call_given (Iface line) v w h.call asked gos answers (placed_if_keeps o (driver_without_lines v) line (cleared_keeps v keeps)) (placed_up o v line) (asked_fits w line o h.call h.asked)
    talk (accepted_is o v w line h.call talk h.asked) (placed_stays o v line) (placed_asks o v line) (order_cause o v line h.call keeps.serves h.asked) tt known counted)

-- the end of the interface is `quit`
quit_given : (v v' : DriverParts) (asked : Option Game) (gos answers : ℕ) → DriverInvariant v → IsKnown v asked → gos ≡ answers + open_count v.talk.search → Orders (codes "quit") v v' → Result IfaceEnd v v' asked gos answers
quit_given v v' asked gos answers keeps known counted h =
    let w = driver_without_lines v in
    let is : h.call ≡ calls.Quit = h.asked in
    subst (λ (x : DriverParts). Result IfaceEnd v x asked gos answers) (sym h.after)
    (call_given IfaceEnd v w h.call asked gos answers (cleared_keeps v keeps) refl (subst (CallFits v.game) (sym is) tt)
    refl (ap (is_accepted v.talk) is) (λ e. refl) (λ e. absurd (cc)) (λ lacks. subst (talks.SearchHasNoMove v.talk) is lacks) tt known counted)

-- A LINE OF THE ENGINE

thought_accepted : (t : DriverState) (depth : ℕ) (score : _) (time nodes : ℕ) (best : Option Move) → is_accepted t (thought_call depth score time nodes best) ≡ false
thought_accepted t depth score time nodes None = refl
thought_accepted t depth score time nodes (Some m) = refl

heard_accepted : (v : DriverParts) (said : EngineMessageSeen) (c : DriverCall) → EngineLineIsHeard v said c → is_accepted v.talk c ≡ false
heard_accepted v (SaysMove text) c h = ap (is_accepted v.talk) h.1.1
heard_accepted v (Report depth score time nodes moves) c h = ap (is_accepted v.talk) h.1.1 ∙ thought_accepted v.talk depth score time nodes h.0
heard_accepted v said c h = ap (is_accepted v.talk) h

shown_cause : (t : DriverState) (p : Position) (text : List ℕ) (shown : Option Move) → EngineMoveIs p text shown → talks.SearchHasNoMove t (calls.Moved shown) → (is_thinking t ≡ true) × GivesUp (SaysMove text) p
shown_cause t p text None i lacks = (lacks, i)
shown_cause t p text (Some m) i lacks = absurd lacks

thought_cause : (t : DriverState) (depth : ℕ) (score : _) (time nodes : ℕ) (best : Option Move) → talks.SearchHasNoMove t (thought_call depth score time nodes best) → ⊥
thought_cause t depth score time nodes None lacks = lacks
thought_cause t depth score time nodes (Some m) lacks = lacks

leaves_kept : (kept : Option Move) (p : Phase) (g : Game) (sent_game : SentGame) → ServesKept kept p g sent_game → kept ≡ None → p ≡ Leaves Answer → ⊥
leaves_kept None Rests g sent_game h e f = absurd (cc)
leaves_kept None p g sent_game h e f = h
leaves_kept (Some m) p g sent_game h e f = absurd (cc)

pong_cause : (search : Option OpenSearch) (g : Game) (sent_game : SentGame) → OpenSearchIsServed search g sent_game → talks.KeepsNoneIn (Leaves Answer) search → ⊥
pong_cause None g sent_game h k = k
pong_cause (Some s) g sent_game h k = leaves_kept s.kept s.phase g sent_game h k.0 k.1

heard_cause : (v : DriverParts) (said : EngineMessageSeen) (c : DriverCall) → OpenSearchIsServed v.talk.search v.game v.sent_game → EngineLineIsHeard v said c → talks.SearchHasNoMove v.talk c → (is_thinking v.talk ≡ true) × GivesUp said (current_position v.game)
heard_cause v (SaysMove text) c s h lacks = shown_cause v.talk (current_position v.game) text h.0 h.1.0 (subst (talks.SearchHasNoMove v.talk) h.1.1 lacks)
heard_cause v Over c s h lacks = (subst (talks.SearchHasNoMove v.talk) h lacks, tt)
heard_cause v (Pong n) c s h lacks = absurd (pong_cause v.talk.search v.game v.sent_game s (subst (talks.SearchHasNoMove v.talk) h lacks))
heard_cause v (Report depth score time nodes moves) c s h lacks = absurd (thought_cause v.talk depth score time nodes h.0 (subst (talks.SearchHasNoMove v.talk) h.1.1 lacks))
heard_cause v (Feature text) c s h lacks = absurd (subst (talks.SearchHasNoMove v.talk) h lacks)
heard_cause v says.Other c s h lacks = absurd (subst (talks.SearchHasNoMove v.talk) h lacks)

same_taken : (v : DriverParts) (r : DriverTurn) → r ≡ quiet v.talk → driver_after_turn (driver_without_lines v) r ≡ driver_without_lines v
same_taken v r e = ap (driver_after_turn (driver_without_lines v)) e

moved_ignored : (thinks : Bool) (v : DriverParts) (text : List ℕ) (c : DriverCall) (shown : Option Move) → is_thinking v.talk ≡ thinks → c ≡ calls.Moved shown → IgnoredBy (SaysMove text) thinks v (driver_after_call (driver_without_lines v) c)
moved_ignored true v text c shown t e = tt
moved_ignored false v text c shown t e = same_taken v (driver_turn_of v.talk c) (ap (driver_turn_of v.talk) e ∙ (moves_are_ignored v.talk shown t).0)

over_ignored : (thinks : Bool) (v : DriverParts) (c : DriverCall) → is_thinking v.talk ≡ thinks → c ≡ calls.Resigned → IgnoredBy Over thinks v (driver_after_call (driver_without_lines v) c)
over_ignored true v c t e = tt
over_ignored false v c t e = same_taken v (driver_turn_of v.talk c) (ap (driver_turn_of v.talk) e ∙ (moves_are_ignored v.talk None t).1)

heard_ignored : (v : DriverParts) (said : EngineMessageSeen) (c : DriverCall) → EngineLineIsHeard (driver_without_lines v) said c → IgnoredBy said (is_thinking v.talk) v (driver_after_call (driver_without_lines v) c)
heard_ignored v (SaysMove text) c h = moved_ignored (is_thinking v.talk) v text c h.0 refl h.1.1
heard_ignored v Over c h = over_ignored (is_thinking v.talk) v c refl h
heard_ignored v said c h = tt

heard_call : (v v' : DriverParts) (line : List ℕ) (said : EngineMessageSeen) (c : DriverCall) (asked : Option Game) (gos answers : ℕ) → DriverInvariant v → IsKnown v asked → gos ≡ answers + open_count v.talk.search → said ≡ says_in line → EngineLineIsHeard (driver_without_lines v) said c → v' ≡ driver_after_call (driver_without_lines v) c
    → Result (Engine line) v v' asked gos answers
heard_call v v' line said c asked gos answers keeps known counted e heard a =
    subst (λ (x : DriverParts). Result (Engine line) v x asked gos answers) (sym a)
    (call_given (Engine line) v (driver_without_lines v) c asked gos answers (cleared_keeps v keeps) refl (heard_fits (driver_without_lines v) said c heard) refl (heard_accepted (driver_without_lines v) said c heard)
    (λ o. refl) (λ o. absurd (cc)) (λ lacks. subst (λ (x : EngineMessageSeen). (is_thinking v.talk ≡ true) × GivesUp x (current_position v.game)) e (heard_cause (driver_without_lines v) said c keeps.serves heard lacks))
    (subst (λ (x : EngineMessageSeen). IgnoredBy x (is_thinking v.talk) v (driver_after_call (driver_without_lines v) c)) e (heard_ignored v said c heard)) known counted)

-- FEATURES

abbrev greet_lines : HasFeatures → List ℕ → List AFeature → List UpLine
greet_lines h name [] = []
greet_lines h name (f ∷ fs) = cond (greets h f) (Named name ∷ UciOk ∷ []) [] ++ greet_lines (has_after h f) (name_after name f) fs

greet_step : (b : Bool) (name more : List ℕ) (rest : List UpLine) → more ≡ up_lines_text rest
    → cond b (up_line_text (Named name) ++ up_line_text UciOk) [] ++ more ≡ up_lines_text (cond b (Named name ∷ UciOk ∷ []) [] ++ rest)
greet_step true name more rest e = append_assoc (up_line_text (Named name)) (up_line_text UciOk) more ∙ ap (λ (x : List ℕ). up_line_text (Named name) ++ (up_line_text UciOk ++ x)) e
greet_step false name more rest e = e

greet_written : (h : HasFeatures) (name : List ℕ) (fs : List AFeature) → greetings h name fs ≡ up_lines_text (greet_lines h name fs)
greet_written h name [] = refl
greet_written h name (f ∷ fs) = greet_step (greets h f) name (greetings (has_after h f) (name_after name f) fs) (greet_lines (has_after h f) (name_after name f) fs) (greet_written (has_after h f) (name_after name f) fs)

-- no answers, and no moves
pub record IsPlain (event : Event) (v : DriverParts) (asked : Option Game) (lines : List UpLine) : Type 0 where
  legal_moves : AllByRecursion (HasLegalMove asked) lines
  causes : AllByRecursion (BestmoveHasCause event v) lines
  none : answer_count lines ≡ 0
  one_line : AllByRecursion NameIsOneLine lines

plain_step : (b : Bool) (event : Event) (v : DriverParts) (asked : Option Game) (name : List ℕ) (rest : List UpLine) → IsWhole name → IsPlain event v asked rest → IsPlain event v asked (cond b (Named name ∷ UciOk ∷ []) [] ++ rest)
plain_step true event v asked name rest n p = record { legal_moves = (tt, (tt, p.legal_moves)); causes = (tt, (tt, p.causes)); none = p.none; one_line = ((n.no_feed, n.short), (tt, p.one_line)) }
plain_step false event v asked name rest n p = p

greet_plain : (event : Event) (v : DriverParts) (asked : Option Game) (h : HasFeatures) (name : List ℕ) (fs : List AFeature) → IsWhole name → AllByRecursion IsWholeFeature fs → IsPlain event v asked (greet_lines h name fs)
greet_plain event v asked h name [] n w = record { legal_moves = tt; causes = tt; none = refl; one_line = tt }
greet_plain event v asked h name (f ∷ fs) n w = plain_step (greets h f) event v asked name _ n (greet_plain event v asked (has_after h f) (name_after name f) fs (name_whole name f n w.0) w.1)

plain_given : (line : List ℕ) (v v' : DriverParts) (lines : List UpLine) (asked : Option Game) (gos answers : ℕ) → DriverInvariant v' → v'.talk ≡ v.talk → v'.game ≡ v.game → v'.up.text ≡ up_lines_text lines → IsPlain (Engine line) v asked lines → IsIgnored (Engine line) v v'
    → IsKnown v asked → gos ≡ answers + open_count v.talk.search → Result (Engine line) v v' asked gos answers
plain_given line v v' lines asked gos answers keeps talk game written plain ignored known counted =
    let same : open_count v'.talk.search ≡ open_count v.talk.search = ap (λ (t : DriverState). open_count t.search) talk in
    let none = plain.none in
    let zero : one_if (accepts_go (Engine line) v) ≡ 0 = refl in (
      record {
        lines = lines;
        written = written;
        one_line = plain.one_line;
        legal_moves = plain.legal_moves;
        causes = plain.causes;
        once = omega (arith, same, none, zero, counted);
        stays = λ o. game;
        ignored = ignored;
      },
      (keeps, λ o. known (ap (λ (t : DriverState). is_search_open t.search) (sym talk) ∙ o) ∙ ap (λ (g : Game). Some g) (sym game)),
    )

no_ignored : (line text : List ℕ) (v v' : DriverParts) → Feature text ≡ says_in line → IsIgnored (Engine line) v v'
no_ignored line text v v' e = subst (λ (x : EngineMessageSeen). IgnoredBy x (is_thinking v.talk) v v') e tt

feature_given : (stage : DriverStage) (line text : List ℕ) (v : DriverParts) (asked : Option Game) (gos answers : ℕ) → Feature text ≡ says_in line → IsWhole text → IsCalled v → DriverInvariant (features_at stage (driver_without_lines v) text) → IsKnown v asked → gos ≡ answers + open_count v.talk.search
    → Result (Engine line) v (features_at stage (driver_without_lines v) text) asked gos answers
feature_given stages.Over line text v asked gos answers e w called keeps known counted =
    plain_given line v (driver_without_lines v) [] asked gos answers keeps refl refl refl (record { legal_moves = tt; causes = tt; none = refl; one_line = tt }) (no_ignored line text v (driver_without_lines v) e) known counted
feature_given stages.Open line text v asked gos answers e w called keeps known counted =
    plain_given line v _ (greet_lines v.has v.name.text (feature_parts text)) asked gos answers keeps refl refl (greet_written v.has v.name.text (feature_parts text)) (greet_plain (Engine line) v asked v.has v.name.text (feature_parts text) called (parts_whole text w))
    (no_ignored line text v _ e) known counted
feature_given stages.Fresh line text v asked gos answers e w called keeps known counted =
    plain_given line v _ (greet_lines v.has v.name.text (feature_parts text)) asked gos answers keeps refl refl (greet_written v.has v.name.text (feature_parts text)) (greet_plain (Engine line) v asked v.has v.name.text (feature_parts text) called (parts_whole text w))
    (no_ignored line text v _ e) known counted

heard_given : (said : EngineMessageSeen) (v v' : DriverParts) (line : List ℕ) (asked : Option Game) (gos answers : ℕ) → IsWhole line → IsCalled v → DriverInvariant v → IsKnown v asked → gos ≡ answers + open_count v.talk.search → said ≡ says_in line → HeardBy said (driver_without_lines v) v' → Result (Engine line) v v' asked gos answers
heard_given (Feature text) v v' line asked gos answers whole called keeps known counted e h =
    subst (λ (x : DriverParts). Result (Engine line) v x asked gos answers) (sym h)
    (feature_given v.talk.stage line text v asked gos answers e (feature_whole line text whole e) called (featured_keeps (driver_without_lines v) text (cleared_keeps v keeps)) known counted)
heard_given (SaysMove text) v v' line asked gos answers whole called keeps known counted e h = heard_call v v' line (SaysMove text) h.0 asked gos answers keeps known counted e h.1.0 h.1.1
heard_given Over v v' line asked gos answers whole called keeps known counted e h = heard_call v v' line Over h.0 asked gos answers keeps known counted e h.1.0 h.1.1
heard_given (Pong n) v v' line asked gos answers whole called keeps known counted e h = heard_call v v' line (Pong n) h.0 asked gos answers keeps known counted e h.1.0 h.1.1
heard_given (Report depth score time nodes moves) v v' line asked gos answers whole called keeps known counted e h =
    heard_call v v' line (Report depth score time nodes moves) h.0 asked gos answers keeps known counted e h.1.0 h.1.1
heard_given says.Other v v' line asked gos answers whole called keeps known counted e h = heard_call v v' line says.Other h.0 asked gos answers keeps known counted e h.1.0 h.1.1

end_given : (v v' : DriverParts) (asked : Option Game) (gos answers : ℕ) → DriverInvariant v → IsKnown v asked → gos ≡ answers + open_count v.talk.search → EngineEndGives v v' → Result EngineEnd v v' asked gos answers
end_given v v' asked gos answers keeps known counted h =
    subst (λ (x : DriverParts). Result EngineEnd v x asked gos answers) (sym h)
    (call_given EngineEnd v (driver_without_lines v) calls.Ended asked gos answers (cleared_keeps v keeps) refl tt refl refl (λ e. refl) (λ e. absurd (cc)) (λ lacks. lacks) tt known counted)

-- RUNS

event_given : (event : Event) (v v' : DriverParts) (asked : Option Game) (gos answers : ℕ) → IsPeerLine event → IsCalled v → DriverInvariant v → IsKnown v asked → gos ≡ answers + open_count v.talk.search → DriverEventGives event v v' → Result event v v' asked gos answers
event_given (Iface line) v v' asked gos answers is called keeps known counted h = order_given v v' line asked gos answers keeps known counted h
event_given IfaceEnd v v' asked gos answers is called keeps known counted h = quit_given v v' asked gos answers keeps known counted h
event_given (Engine line) v v' asked gos answers is called keeps known counted h = heard_given (says_in line) v v' line asked gos answers (record { no_feed = is.1; short = is.0 }) called keeps known counted refl h
event_given EngineEnd v v' asked gos answers is called keeps known counted h = end_given v v' asked gos answers keeps known counted h
event_given event v v' asked gos answers is called keeps known counted h = absurd h

all_given : (events : List Event) (after : List DriverParts) (v : DriverParts) (asked : Option Game) (gos answers : ℕ) → IsCalled v → DriverInvariant v → IsKnown v asked → gos ≡ answers + open_count v.talk.search → DriverTakesAll v events after → AllGiven v asked gos answers events after
all_given [] after v asked gos answers called keeps known counted h = tt
all_given (event ∷ events) [] v asked gos answers called keeps known counted h = absurd h
all_given (event ∷ events) (v' ∷ later) v asked gos answers called keeps known counted h =
    let takes = h.0 in
    let r = event_given event v v' asked gos answers takes.is_line called keeps known counted takes.comes in
    let next = event_called event v v' takes.is_line takes.comes called in
    (r.0, all_given events later v' (game_asked event v asked) (gos + one_if (accepts_go event v)) (answers + answer_count r.0.lines) next r.1.0 r.1.1 r.0.once h.1)

pub runs_are_sound : RunsAreSound
runs_are_sound events after h = record {
  given = all_given events after opening_driver None 0 0 (record { no_feed = refl; short = omega arith }) opening_keeps (λ e. absurd (cc)) refl h;
  searches = λ g. on_the_ordered events after g h;
  busy = busy_runs events after h;
}

pub script_by : (events : List Event) (after : List DriverParts) (text : List ℕ) → DriverTakesAll opening_driver events after → text ≡ script_text events after → IsScriptOfDrive events text
script_by events after text h e = record { after = after; goes = h; sound = runs_are_sound events after h; text_is = e }
