-- While a search is open the engine has something to do.
use Rattle.std.proofs.Common.{◌≡◌, ◌∙◌, Bool, true, false, cond, List, [], ◌∷◌, ◌++◌, Option, Some, refl, sym, ap, subst, ℕ}
use Rattle.std.specs.Prelude.{codes}
use Rattle.line_io.specs.Event.{Event, Iface, IfaceEnd, Engine, EngineEnd}
use Rattle.protocol_tokens.specs.Tokens.{first_token}
use Rattle.driver_state_machine.specs.declared.words.OpenSearch.{OpenSearch}
use Rattle.driver_state_machine.specs.declared.driver_state.DriverStage.{DriverStage}
use Rattle.driver_state_machine.specs.declared.driver_state.DriverStage.TheVariants as stages
use Rattle.driver_state_machine.specs.declared.driver_state.DriverState.{DriverState}
use Rattle.driver_state_machine.specs.declared.driver_state.DriverCall.{DriverCall}
use Rattle.driver_state_machine.specs.declared.driver_state.DriverCall.TheVariants as calls
use Rattle.driver_state_machine.specs.DriverState.{driver_turn_of, is_free, is_thinking}
use Rattle.driver_state_machine.specs.Laws.{action_after, one_if, state_after_calls, writes_prompt}
use Rattle.driver_state_machine.specs.declared.words.ToEngine.{ToEngine}
use Rattle.driver_state_machine.specs.Lines.{DownLine, lines_text}
use Rattle.driver_state_machine.specs.Parts.{feature_parts}
use Rattle.driver_state_machine.proofs.Busy.{open_is_busy}
use Rattle.driver_state_machine.proofs.PromptCauses.{prompts_have_cause}
use Rattle.driver_state_machine.proofs.Prompts.{prompts_are_due, prompts_once}
use Rattle.driver_state_machine.specs.declared.order_words.OrderWord.{OrderWord}
use Rattle.driver_state_machine.specs.declared.order_words.OrderWord.TheVariants as orders
use Rattle.driver_state_machine.specs.Words.{order_word_in as order_in}
use Rattle.driver_state_machine.specs.Says.{EngineMessageSeen, Move as SaysMove, Over, Pong, Report, Feature, says_in}
use Rattle.driver_state_machine.specs.Says as says
use Rattle.cecp_driver.specs.declared.driver.DriverParts.{DriverParts}
use Rattle.cecp_driver.specs.Driver.{Orders, EngineEndGives, HeardBy, EngineLineIsHeard, driver_after_call, driver_without_lines, features_at, opening_driver, placed_if}
use Rattle.cecp_driver.specs.Script.{DriverEventGives, DriverTakesAll}
use Rattle.cecp_driver.specs.Busy.{AllBusy, Busies, IsCallOf, prompt_lines}
use Rattle.cecp_driver.specs.Actions.{down_lines}
use Rattle.cecp_driver.specs.Features.{feature_answers}
use Rattle.cecp_driver.proofs.Prompting.{in_deed, none_in_answers}

talk_by : (free : Bool) (v w : DriverParts) → w.talk ≡ v.talk → (cond free w v).talk ≡ v.talk
talk_by true v w e = e
talk_by false v w e = refl

placed_talk : (o : OrderWord) (v : DriverParts) (line : List ℕ) → (placed_if o (driver_without_lines v) line).talk ≡ v.talk
placed_talk orders.Position v line = talk_by (is_free v.talk) (driver_without_lines v) _ refl
placed_talk o v line = refl

busies : (event : Event) (v v' : DriverParts) (before : List DriverCall) (call : DriverCall) (lines : List DownLine) → IsCallOf event v call → v'.talk ≡ state_after_calls (call ∷ before) → v'.down.text ≡ lines_text lines
    → prompt_lines lines ≡ one_if (writes_prompt (action_after before call).down) → Busies event v v' before
busies event v v' before call lines is talk written among = record {
  call = call;
  is = is;
  talk = talk;
  busy = λ s e. open_is_busy (call ∷ before) s (ap (λ (t : DriverState). t.search) (sym talk) ∙ e);
  prompt = record {
    lines = lines;
    written = written;
    among = among;
    cause = prompts_have_cause before call;
    once = prompts_once (call ∷ before);
    due = λ e. prompts_are_due (call ∷ before) (ap is_thinking (sym talk) ∙ e);
  };
}

acts : (v w v' : DriverParts) (before : List DriverCall) (call : DriverCall) → v.talk ≡ state_after_calls before → w.talk ≡ v.talk → v' ≡ driver_after_call w call → v'.talk ≡ state_after_calls (call ∷ before)
acts v w v' before call known same after =
    ap (λ (x : DriverParts). x.talk) after ∙ ap (λ (t : DriverState). (driver_turn_of t call).talk) (same ∙ known)

-- a call that is taken
called : (event : Event) (v w v' : DriverParts) (before : List DriverCall) (call : DriverCall) → IsCallOf event v call → v.talk ≡ state_after_calls before → w.talk ≡ v.talk → w.down.text ≡ [] → v' ≡ driver_after_call w call → Busies event v v' before
called event v w v' before call is known same blank after =
    let down : ToEngine = (driver_turn_of w.talk call).action.down in
    let talk : w.talk ≡ state_after_calls before = same ∙ known in
    busies event v v' before call (down_lines w.sent_game w.game w.has.usermove down) is (acts v w v' before call known same after)
    (ap (λ (x : DriverParts). x.down.text) after ∙ ap (λ (x : List ℕ). x ++ lines_text (down_lines w.sent_game w.game w.has.usermove down)) blank)
    (in_deed w.sent_game w.game w.has.usermove down ∙ ap (λ (t : DriverState). one_if (writes_prompt (driver_turn_of t call).action.down)) talk)

down_by : (free : Bool) (v w : DriverParts) → v.down.text ≡ [] → w.down.text ≡ [] → (cond free w v).down.text ≡ []
down_by true v w a b = b
down_by false v w a b = a

placed_down : (o : OrderWord) (v : DriverParts) (line : List ℕ) → (placed_if o (driver_without_lines v) line).down.text ≡ []
placed_down orders.Position v line = down_by (is_free v.talk) (driver_without_lines v) _ refl refl
placed_down o v line = refl

-- features change nothing of the talk
calm : (t : DriverState) → (driver_turn_of t calls.Other).talk ≡ t
unfolding driver_turn_of
calm t = refl

features_talk : (stage : DriverStage) (v : DriverParts) (text : List ℕ) → (features_at stage v text).talk ≡ v.talk
features_talk stages.Over v text = refl
features_talk stages.Open v text = refl
features_talk stages.Fresh v text = refl

calm_down : (t : DriverState) → writes_prompt (driver_turn_of t calls.Other).action.down ≡ false
unfolding driver_turn_of
calm_down t = refl

-- the lines of features have no `?`
features_prompt : (stage : DriverStage) (line : List ℕ) (v : DriverParts) (text : List ℕ) (before : List DriverCall) → IsCallOf (Engine line) v calls.Other → v.talk ≡ state_after_calls before
    → (features_at stage (driver_without_lines v) text).talk ≡ state_after_calls (calls.Other ∷ before) → Busies (Engine line) v (features_at stage (driver_without_lines v) text) before
features_prompt stages.Over line v text before is known talk =
    busies (Engine line) v (driver_without_lines v) before calls.Other [] is talk refl (sym (ap one_if (calm_down (state_after_calls before))))
features_prompt stages.Open line v text before is known talk =
    busies (Engine line) v _ before calls.Other (feature_answers (feature_parts text)) is talk refl (none_in_answers (feature_parts text) ∙ sym (ap one_if (calm_down (state_after_calls before))))
features_prompt stages.Fresh line v text before is known talk =
    busies (Engine line) v _ before calls.Other (feature_answers (feature_parts text)) is talk refl (none_in_answers (feature_parts text) ∙ sym (ap one_if (calm_down (state_after_calls before))))

heard : (said : EngineMessageSeen) (line : List ℕ) (v v' : DriverParts) (before : List DriverCall) → v.talk ≡ state_after_calls before → said ≡ says_in line → HeardBy said (driver_without_lines v) v' → Busies (Engine line) v v' before
heard (Feature text) line v v' before known e h =
    subst (λ (x : DriverParts). Busies (Engine line) v x before) (sym h)
    (features_prompt v.talk.stage line v text before (subst (λ (s : EngineMessageSeen). EngineLineIsHeard (driver_without_lines v) s calls.Other) e refl) known
    (features_talk v.talk.stage (driver_without_lines v) text ∙ known ∙ sym (calm (state_after_calls before))))
heard (SaysMove text) line v v' before known e h =
    called (Engine line) v (driver_without_lines v) v' before h.0 (subst (λ (s : EngineMessageSeen). EngineLineIsHeard (driver_without_lines v) s h.0) e h.1.0) known refl refl h.1.1
heard Over line v v' before known e h =
    called (Engine line) v (driver_without_lines v) v' before h.0 (subst (λ (s : EngineMessageSeen). EngineLineIsHeard (driver_without_lines v) s h.0) e h.1.0) known refl refl h.1.1
heard (Pong n) line v v' before known e h =
    called (Engine line) v (driver_without_lines v) v' before h.0 (subst (λ (s : EngineMessageSeen). EngineLineIsHeard (driver_without_lines v) s h.0) e h.1.0) known refl refl h.1.1
heard (Report depth score time nodes moves) line v v' before known e h =
    called (Engine line) v (driver_without_lines v) v' before h.0 (subst (λ (s : EngineMessageSeen). EngineLineIsHeard (driver_without_lines v) s h.0) e h.1.0) known refl refl h.1.1
heard says.Other line v v' before known e h =
    called (Engine line) v (driver_without_lines v) v' before h.0 (subst (λ (s : EngineMessageSeen). EngineLineIsHeard (driver_without_lines v) s h.0) e h.1.0) known refl refl h.1.1

one_busy : (event : Event) (v v' : DriverParts) (before : List DriverCall) → v.talk ≡ state_after_calls before → DriverEventGives event v v' → Busies event v v' before
one_busy (Iface line) v v' before known h =
    let o = order_in (first_token line) in
    called (Iface line) v (placed_if o (driver_without_lines v) line) v' before h.call h.asked known (placed_talk o v line) (placed_down o v line) h.after
one_busy IfaceEnd v v' before known h = called IfaceEnd v (driver_without_lines v) v' before h.call h.asked known refl refl h.after
one_busy (Engine line) v v' before known h = heard (says_in line) line v v' before known refl h
one_busy EngineEnd v v' before known h = called EngineEnd v (driver_without_lines v) v' before calls.Ended refl known refl refl h
one_busy event v v' before known h = absurd h

all_busy : (events : List Event) (after : List DriverParts) (v : DriverParts) (before : List DriverCall) → v.talk ≡ state_after_calls before → DriverTakesAll v events after → AllBusy v before events after
all_busy [] after v before known h = tt
all_busy (event ∷ events) [] v before known h = absurd h
all_busy (event ∷ events) (v' ∷ later) v before known h =
    let one = one_busy event v v' before known h.0.comes in
    (one, all_busy events later v' (one.call ∷ before) one.talk h.1)

pub busy_runs : (events : List Event) (after : List DriverParts) → DriverTakesAll opening_driver events after → AllBusy opening_driver [] events after
busy_runs events after h = all_busy events after opening_driver [] refl h
