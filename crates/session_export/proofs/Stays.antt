-- The games that are over stay so, whatever lines follow.
use Rattle.std.proofs.Common.{◌≡◌, List, [], ◌∷◌, ◌++◌, refl, sym, ap, subst, ◌∙◌, append_assoc, append-nil}
use Rattle.line_io.specs.Event.{Event, Open}
use Rattle.line_io.specs.Lines.{Piece}
use Rattle.policy_rules.specs.declared.setting_rules.settings.Settings.{Settings}
use Rattle.game_record.specs.Game.{Game}
use Rattle.adapter_core.specs.Trace.{Step, LawfulTrace}
use Rattle.adapter_core.proofs.Unique.{unique}
use Rattle.trace_scripts.specs.Script.{events}
use Rattle.trace_scripts.proofs.Scripts.{goes_on}
use Rattle.script_replay.specs.Versions.{Version, ScriptPlace, LineSaid, Comes, Passes, Starts, HasNoMark, IsOutOfStep, Cannot, script_beginning, behind_header, events_by, replayed_events, events_said, line_says, place_said, script_events, settings_by, version_in}
use Rattle.script_replay.proofs.VersionLines.{behind_more, version_stays}
use Rattle.session_export.specs.Exporting.{game_of}
use Rattle.session_export.specs.Games.{games_over, over_by}
use Rattle.session_export.specs.GamesWritten.{FirstGamesStay}

-- EVENTS OF MORE LINES

said_grows : (s : LineSaid) (es fs rest : List Event) → fs ≡ es ++ rest → (more : List Event) × (events_said s fs ≡ events_said s es ++ more)
said_grows (Comes e) es fs rest h = (rest, ap (λ (xs : List Event). e ∷ xs) h)
said_grows Passes es fs rest h = (rest, h)
said_grows (Starts number) es fs rest h = (rest, h)
said_grows HasNoMark es fs rest h = ([], refl)
said_grows IsOutOfStep es fs rest h = ([], refl)
said_grows Cannot es fs rest h = ([], refl)

events_grow : (place : ScriptPlace) (ls ms : List Piece) → (more : List Event) × (replayed_events place (ls ++ ms) ≡ replayed_events place ls ++ more)
events_grow place [] ms = (replayed_events place ms, refl)
events_grow place (x ∷ ls) ms =
    let next : ScriptPlace = place_said place (line_says place x) in
    let r = events_grow next ls ms in
    said_grows (line_says place x) (replayed_events next ls) (replayed_events next (ls ++ ms)) r.0 r.1

script_grows : (l : Piece) (ls ms : List Piece) → (more : List Event) × (script_events ((l ∷ ls) ++ ms) ≡ script_events (l ∷ ls) ++ more)
script_grows l ls ms =
    let v : Version = version_in (l ∷ ls) in
    let r = events_grow (script_beginning v) (behind_header v (l ∷ ls)) ms in (
      r.0,
      ap (λ (x : Version). events_by x ((l ∷ ls) ++ ms)) (version_stays l ls ms)
          ∙ ap (λ (ps : List Piece). Open ∷ replayed_events (script_beginning v) ps) (behind_more v (l ∷ ls) ms refl)
          ∙ ap (λ (es : List Event). Open ∷ es) r.1,
    )

-- GAMES OF MORE STEPS

newer_games : (q : Settings) (newer trace : List Step) → (more : List Game) × (games_over q (newer ++ trace) ≡ games_over q trace ++ more)
newer_games q [] trace = ([], sym (append-nil (games_over q trace)))
newer_games q (s ∷ newer) trace =
    let r = newer_games q newer trace in
    let over = over_by (game_of q (newer ++ trace)) s.event (game_of q (s ∷ (newer ++ trace))) in
    (r.0 ++ over, ap (λ (gs : List Game). gs ++ over) r.1 ∙ append_assoc (games_over q trace) r.0 over)

one_event : (a : List Event) (x y e : Event) → (a ++ x ∷ []) ++ y ∷ [] ≡ e ∷ [] → ⊥
one_event [] x y e h = cc
one_event (z ∷ []) x y e h = cc
one_event (z ∷ w ∷ a) x y e h = cc

-- at Open none is over
opened_games : (q : Settings) (trace : List Step) → events trace ≡ Open ∷ [] → games_over q trace ≡ []
opened_games q [] h = refl
opened_games q (s ∷ []) h =
    let is : s.event ≡ Open = cc in
    ap (λ (e : Event). over_by (game_of q []) e (game_of q (s ∷ []))) is
opened_games q (s ∷ x ∷ t) h = absurd (one_event (events t) x.event s.event Open h)

pub first_games_stay : (o : Settings) → FirstGamesStay o
first_games_stay o [] later trace trace' s s' =
    let all = games_over (settings_by (version_in later) o) trace' in
    (all, ap (λ (gs : List Game). gs ++ all) (sym (opened_games o trace s.events_are)))
first_games_stay o (l ∷ ls) later trace trace' s s' =
    let v : Version = version_in (l ∷ ls) in
    let q : Settings = settings_by v o in
    let same = version_stays l ls later in
    let grown = script_grows l ls later in
    let on = goes_on q (unique q) trace trace' s.lawful (subst (λ (x : Version). LawfulTrace (settings_by x o) trace') same s'.lawful) grown.0
    (s'.events_are ∙ grown.1 ∙ ap (λ (es : List Event). es ++ grown.0) (sym s.events_are)) in
    let more = newer_games q on.0 trace in
    (more.0, ap (λ (x : Version). games_over (settings_by x o) trace') same ∙ ap (games_over q) on.1 ∙ more.1)
