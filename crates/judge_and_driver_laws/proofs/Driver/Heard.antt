-- A bridge that takes the written lines has the ordered game wherever a search begins.
use Rattle.std.proofs.Common.{◌≡◌, ◌⊎◌, inl, inr, ℕ, List, [], ◌∷◌, ◌++◌, Bool, true, false, Option, Some, None, IfSome, refl, sym, ap, subst, ◌∙◌}
use Rattle.std.specs.Prelude.{codes}
use Rattle.std.specs.List.{AllByRecursion}
use Rattle.chess_board.specs.declared.board.Move.{Move}
use Rattle.game_record.specs.Game.{Game, ply_of}
use Rattle.line_io.specs.Event.{Event, Iface}
use Rattle.cecp_lines.specs.Messages.{IfaceMsg}
use Rattle.cecp_lines.specs.Messages as says
use Rattle.driver_state_machine.specs.Lines.{DownLine, XBoard, Protover, Quit, New, Force, Post, SetBoard, Played, St, Level, Time, Otim, Sd, Go, Analyze, OrderMoveNow, Exit, Ping, Accepted, Rejected, up_line_with_feed, driver_line_text, lines_text}
use Rattle.cecp_driver.specs.declared.driver.DriverParts.{DriverParts}
use Rattle.cecp_driver.specs.Driver.{opening_driver}
use Rattle.cecp_driver.specs.EngineGame.{AllFollow, AllOn, CanPlay, IsNoQuit, DriverQuitIsLast, SearchesOn, Sets, interface_is_gone, game_set_by, set_by_all, with_own}
use Rattle.cecp_driver.specs.Said.{EngineLineCanBeRead}
use Rattle.cecp_driver.proofs.EngineRuns.{on_the_ordered}
use Rattle.policy_rules.specs.declared.setting_rules.settings.Settings.{Settings}
use Rattle.adapter_core.specs.Alone.{commanded_alone}
use Rattle.judge_and_driver_laws.specs.Driver.Runs.{AllHeard, EngineHears, HearsTheOrdered, LineIsMessage, SearchBeginsAt, SearchesHeld, Spoken, game_held, spoken_text, with_lines, with_move}
use Rattle.judge_and_driver_laws.specs.Driver.Wire.{IsCecp, IsMessage, text_without_feed}
use Rattle.judge_and_driver_laws.proofs.Driver.Held.{Holds, takes_line, takes_move}
use Rattle.judge_and_driver_laws.proofs.Driver.Spelled.{cecp}

-- the game at a line that begins a search
abbrev AtLine : Game → Game → DownLine → Type 0
AtLine ordered g Go = g ≡ ordered
AtLine ordered g Analyze = g ≡ ordered
AtLine ordered g line = Unit {0}

split : (ordered g : Game) (l : DownLine) (ls : List DownLine) → SearchesOn ordered g (l ∷ ls) → AtLine ordered g l × SearchesOn ordered (game_set_by g l) ls
split ordered g Go ls s = (s.0, s.1)
split ordered g Analyze ls s = (s.0, s.1)
split ordered g l ls s = (tt, s)

at_message : (ordered g : Game) (l : DownLine) (msg : IfaceMsg) → IsMessage l msg → AtLine ordered g l → SearchBeginsAt ordered g msg
at_message ordered g XBoard msg i a = subst (SearchBeginsAt ordered g) (sym i.1) tt
at_message ordered g Protover msg i a = subst (SearchBeginsAt ordered g) (sym i) tt
at_message ordered g Quit msg i a = subst (SearchBeginsAt ordered g) (sym i) tt
at_message ordered g New msg i a = subst (SearchBeginsAt ordered g) (sym i) tt
at_message ordered g Force msg i a = subst (SearchBeginsAt ordered g) (sym i) tt
at_message ordered g Post msg i a = subst (SearchBeginsAt ordered g) (sym i) tt
at_message ordered g (SetBoard p) msg i a = subst (SearchBeginsAt ordered g) (sym i.1.0) tt
at_message ordered g (Played has_usermove m) msg i a = subst (SearchBeginsAt ordered g) (sym i.1.1) tt
at_message ordered g (St n) msg i a = subst (SearchBeginsAt ordered g) (sym i) tt
at_message ordered g (Level k s n) msg i a = subst (SearchBeginsAt ordered g) (sym i) tt
at_message ordered g (Time n) msg i a = subst (SearchBeginsAt ordered g) (sym i) tt
at_message ordered g (Otim n) msg i a = subst (SearchBeginsAt ordered g) (sym i) tt
at_message ordered g (Sd n) msg i a = subst (SearchBeginsAt ordered g) (sym i) tt
at_message ordered g Go msg i a = subst (SearchBeginsAt ordered g) (sym i) a
at_message ordered g Analyze msg i a = subst (SearchBeginsAt ordered g) (sym i) a
at_message ordered g OrderMoveNow msg i a = subst (SearchBeginsAt ordered g) (sym i) tt
at_message ordered g Exit msg i a = subst (SearchBeginsAt ordered g) (sym i) tt
at_message ordered g (Ping n) msg i a = subst (SearchBeginsAt ordered g) (sym i) tt
at_message ordered g (Accepted name) msg i a = subst (SearchBeginsAt ordered g) (sym i.1) tt
at_message ordered g (Rejected name) msg i a = subst (SearchBeginsAt ordered g) (sym i.1) tt

-- LINES AS MESSAGES

-- the lines that a bridge has taken, and its game
abbrev HoldsAfter : Settings → List Event → Game → Type 0
HoldsAfter o taken g = Holds (commanded_alone o taken) g

record Reads (o : Settings) (ordered g : Game) (taken : List Event) (lines : List DownLine) : Type 0 where
  spoken : List Spoken
  written : lines_text lines ≡ spoken_text spoken
  spelled : AllByRecursion LineIsMessage spoken
  on : SearchesHeld o ordered taken spoken
  after : HoldsAfter o (with_lines taken spoken) (set_by_all g lines)

abbrev spoken_as : DownLine → IfaceMsg → Spoken
spoken_as l msg = record { text = text_without_feed l; msg = msg }

reads_more : (o : Settings) (ordered g : Game) (taken : List Event) (l : DownLine) (ls : List DownLine) (msg : IfaceMsg) → HoldsAfter o taken g → IsCecp l msg → AtLine ordered g l
    → Reads o ordered (game_set_by g l) (Iface (text_without_feed l) ∷ taken) ls → Reads o ordered g taken (l ∷ ls)
reads_more o ordered g taken l ls msg k c a r = record {
  spoken = spoken_as l msg ∷ r.spoken;
  written = ap (λ (t : List ℕ). t ++ lines_text ls) c.whole ∙ ap (λ (t : List ℕ). up_line_with_feed (text_without_feed l) ++ t) r.written;
  spelled = ((c.no_feed, c.spelled), r.spelled);
  on = (subst (λ (x : Game). SearchBeginsAt ordered x msg) (sym k.game) (at_message ordered g l msg c.is a), r.on);
  after = r.after;
}

reads : (o : Settings) (ordered g : Game) (taken : List Event) (lines : List DownLine) → HoldsAfter o taken g → AllByRecursion EngineLineCanBeRead lines → SearchesOn ordered g lines → AllFollow g lines → AllByRecursion IsNoQuit lines → Reads o ordered g taken lines
reads o ordered g taken [] k s on f q = record { spoken = []; written = refl; spelled = tt; on = tt; after = k }
reads o ordered g taken (l ∷ ls) k s on f q =
    let parts = split ordered g l ls on in
    let said = cecp l s.0 in
    reads_more o ordered g taken l ls said.0 k said.1 parts.0
    (reads o ordered (game_set_by g l) (Iface (text_without_feed l) ∷ taken) ls (takes_line o (commanded_alone o taken) g l said.0 k said.1 f.0 q.0) s.1 parts.1 f.1 q.1)

-- ONE EVENT

-- after `quit` nothing matters; before it, the bridge has the engine's game
abbrev Follows : Settings → DriverParts → List Event → Game → Type 0
Follows o v taken g = (interface_is_gone v.talk.stage ≡ true) ⊎ HoldsAfter o taken g

-- the outcome of an event
abbrev Result : Settings → Event → DriverParts → DriverParts → List Event → Game → Type 0
Result o event v v' taken g = (taken' : List Event) × (EngineHears o event v v' taken taken' × Follows o v' taken' g)

moved : (o : Settings) (taken : List Event) (g : Game) (own : Option Move) → HoldsAfter o taken g → IfSome own (λ m. CanPlay g (ply_of m)) → HoldsAfter o (with_move taken own) (with_own g own)
moved o taken g None k h = k
moved o taken g (Some m) k h = takes_move o (commanded_alone o taken) g m k h

-- after `quit`, or with it
last_heard : (o : Settings) (event : Event) (v v' : DriverParts) (taken : List Event) (g g' : Game) (s : Sets event v v' g g') (spoken : List Spoken) → interface_is_gone v'.talk.stage ≡ true → lines_text s.lines ≡ spoken_text spoken
    → AllByRecursion LineIsMessage spoken → SearchesHeld o v'.game taken spoken → Result o event v v' taken g'
last_heard o event v v' taken g g' s spoken q w spelled on = (
  with_move (with_lines taken spoken) s.own,
  (record { spoken = spoken; written = s.written ∙ w; spelled = spelled; on = on; own = s.own; is_own = s.is_own; after = refl }, inl q),
)

abbrev quit_spoken : Spoken
quit_spoken = record { text = codes "quit"; msg = says.Quit }

quit_heard : (o : Settings) (event : Event) (v v' : DriverParts) (taken : List Event) (g g' : Game) (s : Sets event v v' g g') → interface_is_gone v'.talk.stage ≡ true → (s.lines ≡ []) ⊎ (s.lines ≡ Quit ∷ []) → Result o event v v' taken g'
quit_heard o event v v' taken g g' s q (inl e) = last_heard o event v v' taken g g' s [] q (ap lines_text e) tt tt
quit_heard o event v v' taken g g' s q (inr e) = last_heard o event v v' taken g g' s (quit_spoken ∷ []) q (ap lines_text e) ((refl, refl), tt) (tt, tt)

open_heard : (o : Settings) (event : Event) (v v' : DriverParts) (taken : List Event) (g g' : Game) (s : Sets event v v' g g') → HoldsAfter o taken g → AllByRecursion IsNoQuit s.lines → Result o event v v' taken g'
open_heard o event v v' taken g g' s k q =
    let r = reads o v'.game g taken s.lines k s.said s.on s.follow q in (
      with_move (with_lines taken r.spoken) s.own,
      (
        record { spoken = r.spoken; written = s.written ∙ r.written; spelled = r.spelled; on = r.on; own = s.own; is_own = s.is_own; after = refl },
        inr (subst (λ (x : Game). HoldsAfter o (with_move (with_lines taken r.spoken) s.own) x) (sym s.after) (moved o (with_lines taken r.spoken) (set_by_all g s.lines) s.own r.after s.own_legal)),
      ),
    )

heard_by : (before now : Bool) (o : Settings) (event : Event) (v v' : DriverParts) (taken : List Event) (g g' : Game) (s : Sets event v v' g g') → interface_is_gone v.talk.stage ≡ before → interface_is_gone v'.talk.stage ≡ now
    → Follows o v taken g → DriverQuitIsLast before now s.lines → Result o event v v' taken g'
heard_by true now o event v v' taken g g' s b n f q = quit_heard o event v v' taken g g' s (n ∙ q.1) (inl q.0)
heard_by false true o event v v' taken g g' s b n f q = quit_heard o event v v' taken g g' s n q
heard_by false false o event v v' taken g g' s b n (inl e) q = absurd (let both = sym b ∙ e in cc)
heard_by false false o event v v' taken g g' s b n (inr k) q = open_heard o event v v' taken g g' s k q

-- A RUN

all_heard : (o : Settings) (v : DriverParts) (taken : List Event) (g : Game) (events : List Event) (after : List DriverParts) → Follows o v taken g → AllOn v g events after → AllHeard o v taken events after
all_heard o v taken g [] after f h = tt
all_heard o v taken g (event ∷ events) [] f h = tt
all_heard o v taken g (event ∷ events) (v' ∷ later) f h =
    let s = h.1.0 in
    let r = heard_by (interface_is_gone v.talk.stage) (interface_is_gone v'.talk.stage) o event v v' taken g h.0 s refl refl f s.quit in
    (r.0, (r.1.0, all_heard o v' r.0 h.0 events later r.1.1 h.1.1))

pub hears_the_ordered : HearsTheOrdered
hears_the_ordered o before events after first h =
    let g = game_held o before in
    all_heard o opening_driver before g events after (inr (record { not_closed = first; game = refl })) (on_the_ordered events after g h)
