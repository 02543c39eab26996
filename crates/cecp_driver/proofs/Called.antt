-- The engine's name is one line.
use Rattle.std.proofs.Common.{◌≡◌, ℕ, Bool, true, false, cond, List, [], ◌∷◌, refl, sym, subst}
use Rattle.std.specs.Prelude.{codes}
use Rattle.std.specs.List.{AllByRecursion}
use Rattle.line_io.specs.Event.{Event, Iface, IfaceEnd, Engine, EngineEnd}
use Rattle.protocol_tokens.specs.Tokens.{first_token}
use Rattle.driver_state_machine.specs.declared.driver_state.DriverStage.{DriverStage}
use Rattle.driver_state_machine.specs.declared.driver_state.DriverStage.TheVariants as stages
use Rattle.driver_state_machine.specs.declared.driver_state.DriverCall.{DriverCall}
use Rattle.driver_state_machine.specs.declared.driver_state.DriverCall.TheVariants as calls
use Rattle.driver_state_machine.specs.DriverState.{is_free}
use Rattle.driver_state_machine.specs.declared.order_words.OrderWord.{OrderWord}
use Rattle.driver_state_machine.specs.declared.order_words.OrderWord.TheVariants as orders
use Rattle.driver_state_machine.specs.Words.{order_word_in as order_in}
use Rattle.driver_state_machine.specs.Says.{EngineMessageSeen, Move as SaysMove, Over, Pong, Report, Feature, says_in}
use Rattle.driver_state_machine.specs.Says as says
use Rattle.driver_state_machine.specs.Parts.{Feature as AFeature, feature_parts}
use Rattle.cecp_driver.specs.declared.driver.DriverParts.{DriverParts}
use Rattle.cecp_driver.specs.Features.{feature_has_word, name_after, name_all}
use Rattle.cecp_driver.specs.Driver.{Orders, HeardBy, driver_after_call, driver_without_lines, features_at, placed_if}
use Rattle.cecp_driver.specs.Script.{DriverEventGives, IsPeerLine}
use Rattle.cecp_driver.proofs.Fed.{IsWhole, feature_whole}
use Rattle.cecp_driver.proofs.Names.{IsWholeFeature, parts_whole}

abbrev pub IsCalled : DriverParts → Type 0
IsCalled v = IsWhole v.name.text

-- AFTER FEATURES

named_by : (b : Bool) (name value : List ℕ) → IsWhole name → IsWhole value → IsWhole (cond b value name)
named_by true name value n w = w
named_by false name value n w = n

pub name_whole : (name : List ℕ) (f : AFeature) → IsWhole name → IsWholeFeature f → IsWhole (name_after name f)
name_whole name f n w = named_by (feature_has_word (codes "myname") f) name f.value n w.value

names_whole : (name : List ℕ) (fs : List AFeature) → IsWhole name → AllByRecursion IsWholeFeature fs → IsWhole (name_all name fs)
names_whole name [] n w = n
names_whole name (f ∷ fs) n w = names_whole (name_after name f) fs (name_whole name f n w.0) w.1

-- AFTER AN EVENT

placed_called : (o : OrderWord) (v : DriverParts) (line : List ℕ) → IsCalled v → IsCalled (placed_if o (driver_without_lines v) line)
placed_called orders.Position v line called = by_free (is_free v.talk) (driver_without_lines v) _ called called
  where
    by_free : (free : Bool) (v w : DriverParts) → IsCalled v → IsCalled w → IsCalled (cond free w v)
    by_free true v w h k = k
    by_free false v w h k = h
placed_called o v line called = called

featured_called : (stage : DriverStage) (v : DriverParts) (text : List ℕ) → IsWhole text → IsCalled v → IsCalled (features_at stage (driver_without_lines v) text)
featured_called stages.Over v text w called = called
featured_called stages.Open v text w called = names_whole v.name.text (feature_parts text) called (parts_whole text w)
featured_called stages.Fresh v text w called = names_whole v.name.text (feature_parts text) called (parts_whole text w)

acted_called : (v v' : DriverParts) (c : DriverCall) → v' ≡ driver_after_call (driver_without_lines v) c → IsCalled v → IsCalled v'
acted_called v v' c e called = subst IsCalled (sym e) called

heard_called : (said : EngineMessageSeen) (line : List ℕ) (v v' : DriverParts) → IsWhole line → said ≡ says_in line → HeardBy said (driver_without_lines v) v' → IsCalled v → IsCalled v'
heard_called (Feature text) line v v' w e h called = subst IsCalled (sym h) (featured_called v.talk.stage v text (feature_whole line text w e) called)
heard_called (SaysMove text) line v v' w e h called = acted_called v v' h.0 h.1.1 called
heard_called Over line v v' w e h called = acted_called v v' h.0 h.1.1 called
heard_called (Pong n) line v v' w e h called = acted_called v v' h.0 h.1.1 called
heard_called (Report depth score time nodes moves) line v v' w e h called = acted_called v v' h.0 h.1.1 called
heard_called says.Other line v v' w e h called = acted_called v v' h.0 h.1.1 called

order_called : (line : List ℕ) (v v' : DriverParts) → Orders line v v' → IsCalled v → IsCalled v'
order_called line v v' h called = subst IsCalled (sym h.after) (placed_called (order_in (first_token line)) v line called)

pub event_called : (event : Event) (v v' : DriverParts) → IsPeerLine event → DriverEventGives event v v' → IsCalled v → IsCalled v'
event_called (Iface line) v v' is h called = order_called line v v' h called
event_called IfaceEnd v v' is h called = order_called (codes "quit") v v' h called
event_called (Engine line) v v' is h called = heard_called (says_in line) line v v' (record { no_feed = is.1; short = is.0 }) refl h called
event_called EngineEnd v v' is h called = acted_called v v' calls.Ended h called
event_called event v v' is h called = absurd h
