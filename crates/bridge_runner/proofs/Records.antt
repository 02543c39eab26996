-- The result of a run of the bridge.
use Rattle.std.proofs.Common.{◌≡◌, ◌∙◌, ℕ, Bool, true, false, ◌||◌, refl, sym, ap, subst, arith, List, [], ◌∷◌, ◌++◌, filter, Some}
use Rattle.line_io.specs.Source.{Supplied, Received}
use Rattle.line_io.specs.Event.{Event}
use Rattle.policy_rules.specs.declared.setting_rules.settings.Settings.{Settings}
use Rattle.adapter_core.specs.Trace.{Step, LawfulTrace, iface_text, engine_text}
use Rattle.adapter_core.proofs.Unique.{unique}
use Rattle.trace_scripts.specs.Script.{script2}
use Rattle.event_pipe.specs.declared.message.Peer.{Peer}
use Rattle.event_pipe.specs.declared.message.Peer.TheVariants as peers
use Rattle.event_pipe.specs.declared.reader.ReadEnd.TheVariants as read_ends
use Rattle.event_pipe.specs.Events.{sent_by}
use Rattle.child_engine.specs.Hosts.{Ledger, HostIsUnused}
use Rattle.child_engine.specs.declared.host.Faults.{Faults}
use Rattle.program_lifecycle.specs.declared.failures.Failures.{Failures}
use Rattle.program_lifecycle.specs.Early.{no_failure, only_memory}
use Rattle.program_lifecycle.specs.Outside.{Outside, outside}
use Rattle.event_loop.specs.Turns.{Turn, given, log_of_turn}
use Rattle.event_loop.specs.Turns as turns
use Rattle.event_loop.specs.First.{first_events, ArrivedBehind}
use Rattle.event_loop.proofs.Firsts.{by_engine, by_iface, arrived_behind}
use Rattle.event_loop.specs.Mediated.{Mediated}
use Rattle.event_loop.specs.Mediated as hosts
use Rattle.event_loop.specs.Recorded.{RecordedAs}
use Rattle.event_loop.proofs.Wholes.{recorded_as, whole_as, when_whole, nothing_left}
use Rattle.bridge_runner.specs.declared.session.Session.{Session}
use Rattle.bridge_runner.specs.Texts.{events_of_steps, steps_have_loss, step_texts}
use Rattle.bridge_runner.specs.Plays.{turns_of, IsNew, session_meaning}
use Rattle.bridge_runner.specs.Recorded.{BridgeRecorded, BridgeRunIsWhole}
use Rattle.bridge_runner.specs.Bridged.{Bridged, BridgeLeaves}
use Rattle.bridge_runner.proofs.Plays.{received_same, script_is}

filter_all : (es : List Event) → filter (λ e. true) es ≡ es
filter_all [] = refl
filter_all (e ∷ es) = ap (λ (l : List Event). e ∷ l) (filter_all es)

abbrev text_to : Peer → Step → List ℕ
text_to peers.Iface s = iface_text s
text_to peers.Engine s = engine_text s

texts_same : (p : Peer) (o : Settings) (t : List Step) → turns.turn_texts (given p) (turns_of o t) ≡ step_texts (text_to p) t
texts_same p o [] = refl
texts_same peers.Iface o (s ∷ []) = refl
texts_same peers.Engine o (s ∷ []) = refl
texts_same peers.Iface o (s ∷ r ∷ t) = ap (λ (l : List ℕ). l ++ iface_text s) (texts_same peers.Iface o (r ∷ t))
texts_same peers.Engine o (s ∷ r ∷ t) = ap (λ (l : List ℕ). l ++ engine_text s) (texts_same peers.Engine o (r ∷ t))

loss_same : (p : Peer) (o : Settings) (t : List Step) → turns.turns_have_loss p (turns_of o t) ≡ steps_have_loss p t
loss_same p o [] = refl
loss_same p o (s ∷ []) = refl
loss_same p o (s ∷ r ∷ t) = ap (λ (b : Bool). turns.is_loss p s.event || b) (loss_same p o (r ∷ t))

not_lost : (lost failed : Bool) → (lost ≡ true → failed ≡ true) → failed ≡ false → lost ≡ false
not_lost true failed h e = let z : true ≡ false = sym (h refl) ∙ e in cc
not_lost false failed h e = refl

module _ (session : Session) (first : List ℕ) (before after : Outside) (failures : Failures) (x : Mediated session_meaning session first before after failures) where
  abbrev o : Settings
  o = session.core.settings

  abbrev trace : List Step
  trace = x.ran.looped.did.trace

  turns_are : x.ran.looped.turns ≡ turns_of o trace
  turns_are = x.ran.looped.did.turns_are

  came : events_of_steps trace ≡ first_events first ++ x.ran.later
  came = sym (received_same o trace) ∙ ap turns.events_of_turns (sym turns_are) ∙ x.ran.looped.received_is ∙ filter_all (first_events first ++ x.ran.later)

  of_engine : sent_by peers.Engine (events_of_steps trace) ≡ sent_by peers.Engine x.ran.later
  of_engine = ap (λ (es : List Event). sent_by peers.Engine es) came ∙ by_engine first x.ran.later

  of_iface : sent_by peers.Iface (events_of_steps trace) ≡ first_events first ++ sent_by peers.Iface x.ran.later
  of_iface = ap (λ (es : List Event). sent_by peers.Iface es) came ∙ by_iface first x.ran.later

  put_is : turns.turn_texts log_of_turn x.ran.looped.turns ≡ script2 o trace
  put_is = ap (λ (ts : List Turn). turns.turn_texts log_of_turn ts) turns_are ∙ script_is o trace x.ran.looped.did.begun

  down_is : turns.turn_texts (given peers.Engine) x.ran.looped.turns ≡ step_texts engine_text trace
  down_is = ap (λ (ts : List Turn). turns.turn_texts (given peers.Engine) ts) turns_are ∙ texts_same peers.Engine o trace

  up_is : turns.turn_texts (given peers.Iface) x.ran.looped.turns ≡ step_texts iface_text trace
  up_is = ap (λ (ts : List Turn). turns.turn_texts (given peers.Iface) ts) turns_are ∙ texts_same peers.Iface o trace

  recorded : BridgeRecorded o trace before.ledger after.ledger failures
  recorded =
      subst (λ (es : List Event). RecordedAs (script2 o trace) (step_texts engine_text trace) es before.ledger after.ledger failures) (sym of_engine)
      (recorded_as session_meaning session first before after failures x (script2 o trace) (step_texts engine_text trace) (step_texts iface_text trace) put_is down_is up_is)

  pub bridged_by : (s : Settings) → IsNew s session → Bridged s first before after failures
  bridged_by s new =
      record {
        session = session;
        new = new;
        mediated = x;
        only = λ other m e. unique s other trace m (subst (λ (t : Settings). LawfulTrace t trace) new.settings_are x.ran.looped.did.lawful) e;
        recorded = subst (λ (t : Settings). BridgeRecorded t trace before.ledger after.ledger failures) new.settings_are recorded;
      }

  no_loss : failures ≡ no_failure → (p : Peer) → steps_have_loss p trace ≡ false
  no_loss e peers.Iface =
      sym (loss_same peers.Iface o trace) ∙ ap (λ (ts : List Turn). turns.turns_have_loss peers.Iface ts) (sym turns_are)
      ∙ not_lost _ _ x.ran.looped.iface.only (sym x.reported.iface_write ∙ ap (λ (f : Failures). f.iface_write) e)
  no_loss e peers.Engine =
      sym (loss_same peers.Engine o trace) ∙ ap (λ (ts : List Turn). turns.turns_have_loss peers.Engine ts) (sym turns_are)
      ∙ not_lost _ _ x.ran.looped.engine.only (sym x.reported.engine_write ∙ ap (λ (f : Failures). f.engine_write) e)

  whole_run : failures ≡ no_failure → after.ledger.logs_out ≡ 1 → before.ledger.sinks_report ≡ true → (bytes : List ℕ) → before.ledger.says ≡ Some bytes → BridgeRunIsWhole o first bytes before after
  whole_run e one sinks_report bytes says =
      let w = whole_as session_meaning session first before after failures x (script2 o trace) (step_texts engine_text trace) (step_texts iface_text trace) put_is down_is up_is e one sinks_report bytes says in
      record {
        trace = trace;
        lawful = x.ran.looped.did.lawful;
        no_loss = no_loss e;
        log = w.log;
        later = x.ran.later;
        begins = came;
        engine = of_engine ∙ w.engine;
        iface =
            subst (λ (es : List Event). ArrivedBehind (first_events first) peers.Iface before.input after.input es read_ends.Done) (sym of_iface)
            (arrived_behind (first_events first) before.input after.input (sent_by peers.Iface x.ran.later) read_ends.Done w.iface);
        run = w.run;
        output = w.output;
      }

  pub whole_by : (s : Settings) → IsNew s session → failures ≡ no_failure → after.ledger.logs_out ≡ 1 → before.ledger.sinks_report ≡ true → (bytes : List ℕ) → before.ledger.says ≡ Some bytes → BridgeRunIsWhole s first bytes before after
  whole_by s new e one sinks_report bytes says = subst (λ (t : Settings). BridgeRunIsWhole t first bytes before after) new.settings_are (whole_run e one sinks_report bytes says)

pub leaves_by : (s : Settings) (session : Session) (first : List ℕ) (before after : Outside) (failures : Failures) → IsNew s session → hosts.MediatorLeaves session_meaning session first before after failures → BridgeLeaves s first before after failures
leaves_by s session first before after failures new x =
    record {
      reported = x.reported;
      closed = x.closed;
      nothing = x.nothing;
      unstarted = x.unstarted;
      bridged = λ some. bridged_by session first before after failures (x.mediated some) s new;
      whole = λ e sinks_report.
          when_whole (λ bytes. BridgeRunIsWhole s first bytes before after) before after failures x.closed x.mediated e
          (λ m one bytes says. whole_by session first before after failures m s new e one sinks_report bytes says);
    }

pub leaves_nothing : (s : Settings) (first : List ℕ) (i : Supplied) (o : Received) (f : Faults) (b : Ledger) (failures : Failures) → HostIsUnused b → failures ≡ only_memory → BridgeLeaves s first (outside i o f b) (outside i o f b) failures
leaves_nothing s first i o f b failures u e =
    let x = nothing_left i o f b failures u e in
    record {
      reported = x.reported;
      closed = x.closed;
      nothing = λ _. x.same;
      unstarted = λ _. x.none;
      bridged = λ some. absurd (omega (arith, some, x.none));
      whole = λ w. let z : true ≡ false = ap (λ (g : Failures). g.memory) (sym e ∙ w) in cc;
    }
