-- An engine that is gone resigns, once, and games are given up aloud.
use Rattle.std.proofs.Common.{◌≡◌, ◌≢◌, ◌⊎◌, inl, inr, ℕ, ◌+◌, ◌≤◌, List, [], ◌∷◌, ◌++◌, map, Bool, true, false, not, cond, ◌&&◌, ◌||◌, Ok, Err, refl, sym, ap, ◌∙◌, arith}
use Rattle.std.proofs.lemmas.Bool.{both_ways, and_parts, false_from_ne_true}
use Rattle.std.proofs.lemmas.Bool.Decides.{nat_tests}
use Rattle.chess_board.specs.declared.board.Side.{Side}
use Rattle.chess_board.specs.declared.board.Side.TheVariants.{White, Black}
use Rattle.chess_board.specs.Board.{same_side}
use Rattle.protocol_tokens.specs.declared.kinds.GoKind.TheVariants as kinds
use Rattle.fen_text.specs.Fen.{position_of}
use Rattle.cecp_lines.specs.Messages.{IfaceMsg}
use Rattle.cecp_lines.specs.Messages as says
use Rattle.cecp_lines.specs.declared.reply.UserError.TheVariants as user_error
use Rattle.cecp_lines.specs.Replies.{Reply}
use Rattle.cecp_lines.specs.Replies as cecp
use Rattle.cecp_lines.specs.Losses.{Loss, quoted}
use Rattle.cecp_lines.specs.Losses as losses
use Rattle.uci_lines.specs.Orders.{Order}
use Rattle.game_record.specs.Game.{Game, current_position}
use Rattle.game_record.specs.Ending.{ended_of}
use Rattle.think_text.specs.Line.{thinking_line, legal_run, run_texts, hint_text}
use Rattle.policy_rules.specs.declared.setting_rules.settings.Settings.{Settings}
use Rattle.search_epochs.specs.declared.words.Call.{Call}
use Rattle.search_epochs.specs.declared.words.Call.TheVariants as calls
use Rattle.search_epochs.specs.Tickets as talks
use Rattle.search_epochs.specs.Tickets.{Engine, SearchServesCall, is_move}
use Rattle.search_epochs.specs.Dialogue.{forget}
use Rattle.desk_rules.specs.declared.mode.Mode.{Mode}
use Rattle.desk_rules.specs.declared.mode.Mode.TheVariants as modes
use Rattle.desk_rules.specs.declared.desk.Desk.{Desk}
use Rattle.desk_rules.specs.Desk.{Situation, call_of_desk, call_before, owed_at, is_boot, is_gone, is_full, on_move, game_played, plays}
use Rattle.desk_rules.specs.Lines.{change, desk_at_position, new_mode}
use Rattle.desk_rules.specs.Steps.{Effect, Refuses, Accepts, Boots, Thinks, Shows, Forfeits, Dies, searched_by, shows_thinking, named_hint, spelling_of, desk_after_effect, is_death, over_where, resigns_after, resigns_at_end, resigns_when_gone}
use Rattle.desk_rules.specs.Replies.{result_reply_of, list_where, resign_where, giving_up, given_up_where, early_refusals, reply_row, repeated_thinking, replies_of}
use Rattle.desk_rules.specs.Fits.{EffectFitsDesk, IsServed}
use Rattle.adapter_core.specs.Alone.{is_of_iface}
use Rattle.adapter_core.specs.Trace.{State, Step, IsLawfulStep, LawfulTrace, state, situation_of_state, effect, owed_after, closed_after, step_hits, desk_of}
use Rattle.adapter_core.proofs.Fresh.{calls_move, plays_now, call_is, closed_calls}
use Rattle.adapter_core.proofs.Sides.{IsIfaceAction, iface_effect, closed_still}
use Rattle.adapter_core.proofs.Traces.{Lasts, lasts, fits}
use Rattle.trace_laws.specs.Resigning.{resigns_in, IsOnMove, GoneEngineOwesNothing, GoneEngineGivesUp, GamesEndAloud, gives_side, resigns_since_side, ResignsOnce}
use Rattle.trace_laws.specs.Wire.{Gone, on_wire, wire}
use Rattle.trace_laws.proofs.Heard.{engine_on_wire}
use Rattle.trace_laws.proofs.ResignLines.{joined, none_joined, no_list, no_result, no_refusal, no_early, no_line, no_thinking, no_repeated, no_answer, no_pongs}

-- AN ENGINE THAT IS GONE

pub settings_stay : (o : Settings) (t : List Step) → (state o t).settings ≡ o
settings_stay o [] = refl
settings_stay o (step ∷ t) = settings_stay o t

gone_state : (epoch : ℕ) (e : Engine) → on_wire e ≡ Gone → is_gone (forget epoch e) ≡ true
gone_state epoch talks.Gone x = refl
gone_state epoch talks.Boot x = cc
gone_state epoch talks.Getting x = cc
gone_state epoch talks.Idle x = cc
gone_state epoch (talks.Search k t s) x = cc

own_side : (s : Side) → same_side s s ≡ true
own_side White = refl
own_side Black = refl

moves_then : (closed : Bool) (d : Desk) → closed ≡ false → (i : IsOnMove d) → calls_move closed false d.game d.mode ≡ true
moves_then closed d c i =
    let full : is_full d.game ≡ false = let r = i.has_room in grind (arith, nat_tests) in
    ap (λ b. not ((b || false) || is_full d.game) && plays_now d.game d.mode) c
    ∙ ap (λ b. not b && plays_now d.game d.mode) full
    ∙ ap (plays_now d.game) i.plays
    ∙ ap (λ b. not b && same_side i.side (on_move d.game)) i.goes_on
    ∙ ap (same_side i.side) i.on_move ∙ own_side i.side

pub gone_owes : (o : Settings) → GoneEngineOwesNothing o
gone_owes o t l w c g i =
    let s = state o t in
    let none = (lasts o t l).resigned (ap (λ (x : Settings). x.resign_when_gone) (settings_stay o t) ∙ w) (gone_state s.dialogue.epoch s.dialogue.engine (engine_on_wire o t ∙ g)) in
    both_ways (is_move (call_of_desk s.ends.closed false s.desk)) none (call_is s.ends.closed false s.desk ∙ moves_then s.ends.closed s.desk c i)

-- WHAT GIVES A GAME UP

-- the row of the effect gives the game up
abbrev gives_up : Situation → Effect → Bool
gives_up h (Shows best hint) = resigns_after h best
gives_up h (Forfeits answer) = true
gives_up h Dies = resigns_at_end h
gives_up h d = false

abbrev one_where : Bool → ℕ
one_where b = cond b 1 0

resign_where_is : (b : Bool) → resigns_in (resign_where b) ≡ one_where b
resign_where_is true = refl
resign_where_is false = refl

reason_is : (reasons : Bool) (side : Side) (loss : Loss) → resigns_in (giving_up reasons side loss ∷ []) ≡ 1
reason_is true side loss = refl
reason_is false side loss = refl

given_up_is : (b : Bool) (o : Settings) (g : Game) → resigns_in (given_up_where b o g) ≡ one_where b
given_up_is true o g = reason_is o.result_reasons (on_move g) losses.Ended
given_up_is false o g = refl

behind_none : (xs : List Reply) (b : Bool) → resigns_in xs ≡ 0 → resigns_in (xs ++ resign_where b) ≡ one_where b
behind_none xs b n = omega (arith, joined xs (resign_where b), n, resign_where_is b)

pub row_is : (h : Situation) (d : Effect) → resigns_in (reply_row h d) ≡ one_where (gives_up h d)
unfolding reply_row
row_is h (Refuses r line) = no_refusal r line
row_is h (Accepts m) = no_answer h m
row_is h Boots =
    none_joined (list_where h.desk.due (record h.desk { booted = true })) (early_refusals h.desk.options h.desk.early) (no_list h.desk.due (record h.desk { booted = true })) (no_early h.desk.options h.desk.early)
row_is h (Thinks k facts) =
    let p = current_position (searched_by k h.desk.game h.desk.hint) in
    let s = spelling_of h.settings in
    let hint = named_hint k h.desk.game h.desk.hint in
    no_thinking (shows_thinking h k) (thinking_line s facts p hint) (no_line facts.depth facts.score (run_texts s p (legal_run p facts.pv)) facts s (hint_text s hint))
row_is h (Shows best hint) = behind_none (result_reply_of (game_played h.desk.game best)) (resigns_after h best) (no_result (on_move (game_played h.desk.game best)) (ended_of (game_played h.desk.game best)))
row_is h (Forfeits answer) = reason_is h.settings.result_reasons (on_move h.desk.game) (losses.IllegalMove (quoted answer))
row_is h Dies =
    let gone = given_up_where (resigns_at_end h) h.settings h.desk.game in
    omega (arith, joined (list_where h.desk.due h.desk) (cecp.TellError user_error.Ended ∷ gone), no_list h.desk.due h.desk, given_up_is (resigns_at_end h) h.settings h.desk.game)
row_is h d = refl

-- the lines of a step that give a game up
step_is : (closed owes hits : Bool) (h : Situation) (d : Effect) → closed ≡ false → resigns_in (replies_of closed owes hits h d) ≡ one_where (gives_up h d) + one_where (resigns_when_gone closed h d)
step_is true owes hits h d c = cc
step_is false owes hits h d c =
    let resign = given_up_where (resigns_when_gone false h d) h.settings (desk_after_effect h d).game in
    let repeats = h.settings.repeat_thinking && hits in
    let last = (desk_after_effect h d).last_thinking in
    let again = repeated_thinking repeats last in
    let pongs = cond owes [] (map cecp.Pong (desk_after_effect h d).pings) in
    omega (
      arith,
      joined (reply_row h d ++ resign ++ again) pongs,
      joined (reply_row h d ++ resign) again,
      joined (reply_row h d) resign,
      row_is h d,
      given_up_is (resigns_when_gone false h d) h.settings (desk_after_effect h d).game,
      no_repeated repeats last,
      no_pongs owes (desk_after_effect h d).pings,
    )

closed_none : (closed owes hits : Bool) (h : Situation) (d : Effect) → closed ≡ true → resigns_in (replies_of closed owes hits h d) ≡ 0
closed_none true owes hits h d c = refl
closed_none false owes hits h d c = cc

-- THE MODE

over_is : (b : Bool) (m : Mode) → b ≡ true → over_where b m ≡ modes.Over
over_is true m e = refl
over_is false m e = cc

over_then : (h : Situation) (d : Effect) → gives_up h d ≡ true → (desk_after_effect h d).mode ≡ modes.Over
unfolding desk_after_effect
over_then h (Shows best hint) g = over_is (resigns_after h best) h.desk.mode g
over_then h (Forfeits answer) g = refl
over_then h Dies g = over_is (resigns_at_end h) h.desk.mode g
over_then h d g = cc

none_given : (h : Situation) (d : Effect) → gives_up h d ≡ true → gives_side d ≡ false
none_given h (Accepts m) g = absurd (cc)
none_given h d g = refl

mode_plays : (g : Game) (m : Mode) → plays_now g m ≡ true → plays m ≡ true
mode_plays g (modes.Plays s) e = refl
mode_plays g modes.Force e = cc
mode_plays g modes.Over e = cc
mode_plays g modes.Analyse e = cc

moves_plays : (closed gone : Bool) (d : Desk) → is_move (call_of_desk closed gone d) ≡ true → plays d.mode ≡ true
moves_plays closed gone d e = mode_plays d.game d.mode (and_parts (not ((closed || gone) || is_full d.game)) (plays_now d.game d.mode) (sym (call_is closed gone d) ∙ e)).1

pub move_served : (c : Call) → SearchServesCall kinds.Move c → is_move c ≡ true
move_served calls.Move s = refl
move_served calls.Nothing s = absurd (cc (s.0))
move_served (calls.Ponder g) s = absurd (cc (s.1))
move_served calls.Analyse s = absurd (cc (s.1))

pub owed_move : (spent : Bool) (c : Call) → is_move (owed_at spent c) ≡ true → is_move c ≡ true
owed_move true c e = cc
owed_move false c e = e

played_before : (h : Situation) (held : List Order) (d : Effect) → EffectFitsDesk h held d → IsServed h → gives_up h d ≡ true → plays h.desk.mode ≡ true
played_before h held (Shows best hint) f s g = moves_plays h.closed (is_gone h.engine) h.desk (move_served (call_before h) (s f.0 kinds.Move f.1))
played_before h held (Forfeits answer) f s g = moves_plays h.closed (is_gone h.engine) h.desk (move_served (call_before h) (s f.0 kinds.Move f.1))
played_before h held Dies f s g = moves_plays h.closed (is_gone h.engine) h.desk (owed_move h.spent (call_before h) (and_parts (is_move (owed_at h.spent (call_before h))) (not h.closed) g).0)
played_before h held d f s g = cc

over_back : (b : Bool) (m : Mode) → plays (over_where b m) ≡ true → plays m ≡ true
over_back true m e = cc
over_back false m e = e

placed_mode : (d : Desk) (r : _) → (desk_at_position d r).mode ≡ d.mode
placed_mode d (Ok p) = refl
placed_mode d (Err fault) = refl

line_back : (boot : Bool) (d : Desk) (m : IfaceMsg) → gives_side (Accepts m) ≡ false → plays (change boot d m).mode ≡ true → plays d.mode ≡ true
unfolding change
line_back boot d says.New g e = cc
line_back boot d says.Force g e = cc
line_back boot d says.Go g e = cc
line_back boot d says.PlayOther g e = cc
line_back boot d (says.SetBoard text) g e = ap plays (sym (placed_mode d (position_of text))) ∙ e
line_back boot d says.Analyze g e = cc
line_back boot d says.Exit g e = cc
line_back boot d says.Result g e = cc
line_back boot d m g e = e

-- only a line that gives the engine a side begins to play
plays_back : (h : Situation) (d : Effect) → gives_side d ≡ false → plays (desk_after_effect h d).mode ≡ true → plays h.desk.mode ≡ true
unfolding desk_after_effect
plays_back h (Accepts m) g e = line_back (is_boot h.engine) h.desk m g e
plays_back h (Shows best hint) g e = over_back (resigns_after h best) h.desk.mode e
plays_back h (Forfeits answer) g e = cc
plays_back h Dies g e = over_back (resigns_at_end h) h.desk.mode e
plays_back h d g e = e

new_not_over : (m : Mode) → new_mode m ≡ modes.Over → ⊥
new_not_over modes.Analyse e = cc
new_not_over modes.Force e = cc
new_not_over modes.Over e = cc
new_not_over (modes.Plays s) e = cc

line_over : (boot : Bool) (d : Desk) (m : IfaceMsg) → (change boot d m).mode ≡ modes.Over → (d.mode ≡ modes.Over) ⊎ (Accepts m ≡ Accepts says.Result)
unfolding change
line_over boot d says.New e = absurd (new_not_over d.mode e)
line_over boot d says.Force e = absurd (cc)
line_over boot d says.Go e = absurd (cc)
line_over boot d says.PlayOther e = absurd (cc)
line_over boot d (says.SetBoard text) e = inl (sym (placed_mode d (position_of text)) ∙ e)
line_over boot d says.Analyze e = absurd (cc)
line_over boot d says.Exit e = absurd (cc)
line_over boot d says.Result e = inr refl
line_over boot d m e = inl e

still_over : (b : Bool) (m : Mode) → b ≡ false → over_where b m ≡ modes.Over → m ≡ modes.Over
still_over true m b e = cc
still_over false m b e = e

-- a game that is not given up becomes over by `result`
over_by : (h : Situation) (d : Effect) → gives_up h d ≡ false → (desk_after_effect h d).mode ≡ modes.Over → (h.desk.mode ≡ modes.Over) ⊎ (d ≡ Accepts says.Result)
unfolding desk_after_effect
over_by h (Accepts m) g e = line_over (is_boot h.engine) h.desk m e
over_by h (Shows best hint) g e = inl (still_over (resigns_after h best) h.desk.mode g e)
over_by h (Forfeits answer) g e = cc
over_by h Dies g e = inl (still_over (resigns_at_end h) h.desk.mode g e)
over_by h d g e = inl e

-- IN A STEP AFTER WHICH THE SESSION IS CLOSED

none_resigns : (wants gone owes : Bool) → owes ≡ false → (wants && (gone && owes)) ≡ false
none_resigns true true owes e = e
none_resigns true false owes e = refl
none_resigns false gone owes e = refl

all_three : (wants gone owes : Bool) → wants ≡ true → gone ≡ true → owes ≡ true → (wants && (gone && owes)) ≡ true
all_three true true owes a b c = c
all_three true false owes a b c = cc
all_three false gone owes a b c = cc

either_gone : (gone : Bool) (d : Effect) → (gone ≡ true) ⊎ (d ≡ Dies) → (gone || is_death d) ≡ true
either_gone true d x = refl
either_gone false d (inl e) = cc
either_gone false d (inr e) = ap is_death e

iface_keeps : (h : Situation) (d : Effect) → IsIfaceAction d → gives_up h d ≡ false
iface_keeps h (Shows best hint) i = absurd i
iface_keeps h (Forfeits answer) i = absurd i
iface_keeps h Dies i = absurd i
iface_keeps h d i = refl

not_closed : (b c : Bool) → c ≡ true → (b && not c) ≡ false
not_closed true true e = refl
not_closed true false e = cc
not_closed false c e = refl

closed_keeps : (h : Situation) (held : List Order) (d : Effect) → EffectFitsDesk h held d → h.closed ≡ true → gives_up h d ≡ false
closed_keeps h held (Shows best hint) f c = absurd (both_ways h.closed f.0 c)
closed_keeps h held (Forfeits answer) f c = absurd (both_ways h.closed f.0 c)
closed_keeps h held Dies f c = not_closed (is_move (owed_at h.spent (call_before h))) h.closed c
closed_keeps h held d f c = refl

-- how many resigned since the engine was given a side
record AreFew (desk : Desk) (n : ℕ) : Type 0 where
  few : n ≤ 1
  none : plays desk.mode ≡ true → n ≡ 0

module _ (s : State) (step : Step) (last : Lasts s) (l : IsLawfulStep s step) where
  abbrev h : Situation
  h = situation_of_state s

  abbrev d : Effect
  d = effect s step.event

  abbrev closed : Bool
  closed = closed_after s step.event

  abbrev owes : Bool
  owes = is_move (owed_after s step.event)

  abbrev when_gone : Bool
  when_gone = resigns_when_gone closed h d

  abbrev next : Desk
  next = desk_of s step.event

  open_resigns : closed ≡ false → resigns_in step.replies ≡ one_where (gives_up h d) + one_where when_gone
  open_resigns c = ap resigns_in l.replies ∙ step_is closed owes (step_hits s step.event) h d c

  closed_resigns : closed ≡ true → resigns_in step.replies ≡ 0
  closed_resigns c = ap resigns_in l.replies ∙ closed_none closed owes (step_hits s step.event) h d c

  closed_stays_so : closed ≡ true → when_gone ≡ false
  closed_stays_so c = none_resigns s.settings.resign_when_gone (is_gone h.engine || is_death d) (is_move (call_of_desk closed false (desk_after_effect h d))) (closed_calls closed false (desk_after_effect h d) c)

  closed_quiet : closed ≡ true → gives_up h d ≡ false
  closed_quiet c = by_side (is_of_iface step.event) refl where
    by_side : (b : Bool) → is_of_iface step.event ≡ b → gives_up h d ≡ false
    by_side true i = iface_keeps h d (iface_effect h s.held step.event i)
    by_side false i = closed_keeps h s.held d (fits s step last l) (sym (closed_still s.ends step.event i) ∙ c)

  -- an engine that is gone resigns in a game that it plays
  gone_plays : when_gone ≡ true → plays (desk_after_effect h d).mode ≡ true
  gone_plays w =
      let gone = is_gone h.engine || is_death d in
      let owing = is_move (call_of_desk closed false (desk_after_effect h d)) in
      moves_plays closed false (desk_after_effect h d) (and_parts gone owing (and_parts s.settings.resign_when_gone (gone && owing) w).1).1

  not_both : gives_up h d ≡ true → when_gone ≡ false
  not_both g = by (when_gone) refl where
    by : (b : Bool) → when_gone ≡ b → when_gone ≡ false
    by true w = let p = gone_plays w in let o = ap plays (over_then h d g) in absurd (both_ways (plays (desk_after_effect h d).mode) o p)
    by false w = w

  -- an engine that is gone gives up in one line
  gone_once : closed ≡ false → s.settings.resign_when_gone ≡ true → (is_gone h.engine || is_death d) ≡ true → IsOnMove (desk_after_effect h d) → resigns_in step.replies ≡ 1
  gone_once c wants gone i =
      let owing = call_is closed false (desk_after_effect h d) ∙ moves_then closed (desk_after_effect h d) c i in
      let now = all_three s.settings.resign_when_gone (is_gone h.engine || is_death d) (is_move (call_of_desk closed false (desk_after_effect h d))) wants gone owing in
      let row = false_from_ne_true (gives_up h d) (λ g. both_ways when_gone (not_both g) now) in
      omega (arith, open_resigns c, ap one_where row, ap one_where now)

  -- ONCE

  given_none : (n : ℕ) → AreFew s.desk n → (b : Bool) → gives_side d ≡ b → plays (desk_after_effect h d).mode ≡ true → cond b 0 n ≡ 0
  given_none n a true g p = refl
  given_none n a false g p = a.none (plays_back h d g p)

  given_few : (n : ℕ) → AreFew s.desk n → (b : Bool) → cond b 0 n ≤ 1
  given_few n a true = omega arith
  given_few n a false = a.few

  given_up : (n : ℕ) → AreFew s.desk n → gives_up h d ≡ true → cond (gives_side d) 0 n ≡ 0
  given_up n a g = ap (λ (b : Bool). cond b 0 n) (none_given h d g) ∙ a.none (played_before h s.held d (fits s step last l) last.served g)

  over_next : plays next.mode ≡ true → plays (desk_after_effect h d).mode ≡ true
  over_next p = over_back when_gone (desk_after_effect h d).mode p

  few_on : (n : ℕ) → AreFew s.desk n → AreFew next (cond (gives_side d) 0 n + resigns_in step.replies)
  few_on n a = by closed (gives_up h d) when_gone refl refl refl where
    by : (c g w : Bool) → closed ≡ c → gives_up h d ≡ g → when_gone ≡ w → AreFew next (cond (gives_side d) 0 n + resigns_in step.replies)
    by true g w x y z = record {
      few = omega (arith, given_few n a (gives_side d), closed_resigns x);
      none = λ p. omega (arith, given_none n a (gives_side d) refl (over_next p), closed_resigns x);
    }
    by false true w x y z = record {
      few = omega (arith, given_up n a y, open_resigns x, ap one_where y, ap one_where (not_both y));
      none = λ p. absurd (both_ways (plays (desk_after_effect h d).mode) (ap plays (over_then h d y)) (over_next p));
    }
    by false false true x y z = record {
      few = omega (arith, given_none n a (gives_side d) refl (gone_plays z), open_resigns x, ap one_where y, ap one_where z);
      none = λ p. absurd (both_ways (plays next.mode) (ap plays (over_is when_gone (desk_after_effect h d).mode z)) p);
    }
    by false false false x y z = record {
      few = omega (arith, given_few n a (gives_side d), open_resigns x, ap one_where y, ap one_where z);
      none = λ p. omega (arith, given_none n a (gives_side d) refl (over_next p), open_resigns x, ap one_where y, ap one_where z);
    }

  -- ALOUD

  -- nothing is given up in the step
  by_result : s.desk.mode ≢ modes.Over → next.mode ≡ modes.Over → gives_up h d ≡ false → when_gone ≡ false → d ≡ Accepts says.Result
  by_result n e g w = by_case (over_by h d g (still_over when_gone (desk_after_effect h d).mode w e)) where
    by_case : (s.desk.mode ≡ modes.Over) ⊎ (d ≡ Accepts says.Result) → d ≡ Accepts says.Result
    by_case (inl m) = absurd (n m)
    by_case (inr r) = r

  aloud : s.desk.mode ≢ modes.Over → next.mode ≡ modes.Over → (d ≡ Accepts says.Result) ⊎ (resigns_in step.replies ≡ 1)
  aloud n e = by closed (gives_up h d) when_gone refl refl refl where
    by : (c g w : Bool) → closed ≡ c → gives_up h d ≡ g → when_gone ≡ w → (d ≡ Accepts says.Result) ⊎ (resigns_in step.replies ≡ 1)
    by true g w x y z = inl (by_result n e (closed_quiet x) (closed_stays_so x))
    by false true w x y z = inr (omega (arith, open_resigns x, ap one_where y, ap one_where (not_both y)))
    by false false true x y z = inr (omega (arith, open_resigns x, ap one_where y, ap one_where z))
    by false false false x y z = inl (by_result n e y z)

-- EACH TRACE

few : (o : Settings) (t : List Step) → LawfulTrace o t → AreFew (state o t).desk (resigns_since_side o t)
few o [] l = record { few = omega arith; none = λ p. refl }
few o (step ∷ t) l = few_on (state o t) step (lasts o t l.0) l.1 (resigns_since_side o t) (few o t l.0)

pub resigns_once : (o : Settings) → ResignsOnce o
resigns_once o t l = (few o t l).few

pub games_end_aloud : (o : Settings) → GamesEndAloud o
games_end_aloud o step t l n e = aloud (state o t) step (lasts o t l.0) l.1 n e

gone_before : (o : Settings) (t : List Step) (d : Effect) → (wire t ≡ Gone) ⊎ (d ≡ Dies) → (is_gone (situation_of_state (state o t)).engine ≡ true) ⊎ (d ≡ Dies)
gone_before o t d (inl g) = inl (gone_state (state o t).dialogue.epoch (state o t).dialogue.engine (engine_on_wire o t ∙ g))
gone_before o t d (inr e) = inr e

pub gone_gives_up : (o : Settings) → GoneEngineGivesUp o
gone_gives_up o step t l w c x i =
    let s = state o t in
    let gone = either_gone (is_gone (situation_of_state s).engine) (effect s step.event) (gone_before o t (effect s step.event) x) in
    gone_once s step (lasts o t l.0) l.1 c (ap (λ (x : Settings). x.resign_when_gone) (settings_stay o t) ∙ w) gone i
