-- The turns of a core are those of a lawful trace.
use Rattle.std.specs.Prelude.{◌≡◌, ◌≢◌, ℕ, suc, List, [], ◌∷◌, ◌++◌, length, true}
use Rattle.line_io.specs.Event.{Event}
use Rattle.line_io.specs.Out.{Text, with}
use Rattle.line_io.specs.Lines.{line_feed}
use Rattle.policy_rules.specs.declared.setting_rules.settings.Settings.{Settings}
use Rattle.script_lines.specs.Header.{header_text}
use Rattle.script_lines.specs.StepLine.{step_number}
use Rattle.script_lines.specs.StepText.{numbered_marks}
use Rattle.trace_scripts.specs.Script.{numbered_text}
use Rattle.adapter_core.specs.Ends.{may}
use Rattle.adapter_core.specs.Trace.{Step, LawfulTrace, iface_text, engine_text}
use Rattle.adapter_core.specs.Represents.{Represents}
use Rattle.event_pipe.specs.declared.message.Peer.{Peer}
use Rattle.event_pipe.specs.declared.message.Peer.TheVariants as peers
use Rattle.event_loop.specs.Turns.{Turn, new_turn}
use Rattle.event_loop.specs.Meaning.{MediatorMeaning}
use Rattle.bridge_runner.specs.declared.session.Session.{Session}

-- the turns of a trace. Before the text of the first step stands the header
abbrev pub turns_of : Settings → List Step → List Turn
turns_of o [] = []
turns_of o (s ∷ []) =
    new_turn s.event (iface_text s) (engine_text s) (header_text o ++ line_feed ∷ numbered_text 0 s)
    ∷ []
turns_of o (s ∷ r ∷ t) =
    new_turn s.event (iface_text s) (engine_text s) (numbered_text (length (r ∷ t)) s)
    ∷ turns_of o (r ∷ t)

-- its turns are those of a lawful trace, for which it stands
pub record TurnsAreLawful (s0 : Session) (turns : List Turn) (s : Session) : Type 0 where
  pub trace : List Step
  pub lawful : LawfulTrace s0.core.settings trace
  pub stands : Represents s0.core.settings s.core trace
  pub begun : trace ≢ []
  pub turns_are : turns ≡ turns_of s0.core.settings trace
  pub next : s.next ≡ step_number (length trace)

abbrev pub session_lines_for : Session → Peer → List ℕ
session_lines_for s peers.Iface = s.core.to_iface.text
session_lines_for s peers.Engine = s.core.to_engine.text

abbrev pub session_meaning : MediatorMeaning Session
session_meaning = record {
  fresh = λ s. Represents s.core.settings s.core [] × (s.next ≡ 0);
  did = TurnsAreLawful;
  gave = session_lines_for;
  may = λ s e. may s.core.ends e;
  reported = λ e. true;
  hears_loss = true;
}

-- one step, and what was put for it
pub record BridgeTookStep (old new : Session) (e : Event) (held held' : Text) : Type 0 where
  pub step : Step
  pub event : step.event ≡ e
  pub extends : (o : Settings) (t : List Step) → LawfulTrace o t → Represents o old.core t
      → LawfulTrace o (step ∷ t) × Represents o new.core (step ∷ t)
  pub up : new.core.to_iface.text ≡ iface_text step
  pub down : new.core.to_engine.text ≡ engine_text step
  pub put :
      held' ≡ with held (numbered_marks old.next step.event (iface_text step) (engine_text step))
  pub next : (k : ℕ) → old.next ≡ step_number k → new.next ≡ step_number (suc k)

-- nothing was stepped yet
pub record IsNew (settings : Settings) (s : Session) : Type 0 where
  pub settings_are : s.core.settings ≡ settings
  pub fresh : session_meaning.fresh s
