-- A result with its reason says that the engine's side has lost.
use Rattle.std.proofs.Common.{◌≡◌, inl, inr, List, [], ◌∷◌, ◌++◌, map, Bool, true, false, not, cond, ◌&&◌, ◌||◌, refl, sym, ap, ◌∙◌, subst, arith}
use Rattle.std.specs.List.{AllByRecursion}
use Rattle.std.proofs.lemmas.Bool.{and_parts}
use Rattle.chess_board.specs.declared.board.Side.{Side}
use Rattle.chess_board.specs.declared.board.Side.TheVariants.{White, Black}
use Rattle.chess_board.specs.Board.{same_side}
use Rattle.protocol_tokens.specs.declared.kinds.GoKind.TheVariants as kinds
use Rattle.cecp_lines.specs.declared.reply.UserError.TheVariants as user_error
use Rattle.cecp_lines.specs.Losses.{Loss, quoted}
use Rattle.cecp_lines.specs.Losses as losses
use Rattle.cecp_lines.specs.Replies.{Reply}
use Rattle.cecp_lines.specs.Replies as cecp
use Rattle.game_record.specs.Game.{Game}
use Rattle.game_record.specs.Ending.{ended_of}
use Rattle.policy_rules.specs.declared.setting_rules.settings.Settings.{Settings}
use Rattle.search_epochs.specs.Tickets.{is_move}
use Rattle.desk_rules.specs.declared.mode.Mode.{Mode}
use Rattle.desk_rules.specs.declared.mode.Mode.TheVariants as modes
use Rattle.desk_rules.specs.declared.desk.Desk.{Desk}
use Rattle.desk_rules.specs.Desk.{Situation, call_of_desk, call_before, owed_at, is_gone, is_full, has_ended, on_move, game_played}
use Rattle.desk_rules.specs.Steps.{Effect, Shows, Forfeits, Dies, desk_after_effect, is_death, resigns_after, resigns_at_end, resigns_when_gone}
use Rattle.desk_rules.specs.Replies.{result_reply_of, list_where, resign_where, giving_up, given_up_where, reply_row, repeated_thinking, replies_of}
use Rattle.desk_rules.specs.Fits.{EffectFitsDesk, IsServed}
use Rattle.adapter_core.specs.Trace.{state, situation_of_state, effect, owed_after, closed_after, step_hits}
use Rattle.adapter_core.proofs.Fresh.{plays_now, call_is}
use Rattle.adapter_core.proofs.Traces.{lasts, fits}
use Rattle.trace_laws.specs.Resigning.{resigns_in, losers_in, EngineLoses, LosersAreTheEngines}
use Rattle.trace_laws.proofs.Pieces.{all_both}
use Rattle.trace_laws.proofs.ResignLines.{no_list, no_result, no_repeated, no_pongs}
use Rattle.trace_laws.proofs.Resigning.{settings_stay, row_is, move_served, owed_move}

-- LINES

losers_joined : (xs ys : List Reply) → losers_in (xs ++ ys) ≡ losers_in xs ++ losers_in ys
losers_joined [] ys = refl
losers_joined (cecp.Lost side loss ∷ xs) ys = ap (λ (l : List Side). side ∷ l) (losers_joined xs ys)
losers_joined (x ∷ xs) ys = losers_joined xs ys

-- lines that give no game up
none_lose : (xs : List Reply) → resigns_in xs ≡ 0 → losers_in xs ≡ []
none_lose [] e = refl
none_lose (cecp.Resign ∷ xs) e = absurd (omega (arith, e))
none_lose (cecp.Lost side loss ∷ xs) e = absurd (omega (arith, e))
none_lose (x ∷ xs) e = none_lose xs e

resign_loses : (b : Bool) → losers_in (resign_where b) ≡ []
resign_loses true = refl
resign_loses false = refl

module _ (Q : Side → Type 0) where
  both : (xs ys : List Reply) → AllByRecursion Q (losers_in xs) → AllByRecursion Q (losers_in ys) → AllByRecursion Q (losers_in (xs ++ ys))
  both xs ys a b = subst (AllByRecursion Q) (sym (losers_joined xs ys)) (all_both Q (losers_in xs) (losers_in ys) a b)

  none : (xs : List Reply) → losers_in xs ≡ [] → AllByRecursion Q (losers_in xs)
  none xs e = subst (AllByRecursion Q) (sym e) tt

  given : (reasons : Bool) (side : Side) (loss : Loss) → (reasons ≡ true → Q side) → AllByRecursion Q (losers_in (giving_up reasons side loss ∷ []))
  given true side loss q = (q refl, tt)
  given false side loss q = tt

  given_where : (b : Bool) (o : Settings) (g : Game) → (b ≡ true → o.result_reasons ≡ true → Q (on_move g)) → AllByRecursion Q (losers_in (given_up_where b o g))
  given_where true o g q = given o.result_reasons (on_move g) losses.Ended (q refl)
  given_where false o g q = tt

-- THE SIDE

same_sides : (a b : Side) → same_side a b ≡ true → a ≡ b
same_sides White White e = refl
same_sides Black Black e = refl
same_sides White Black e = absurd (cc)
same_sides Black White e = absurd (cc)

mode_side : (g : Game) (m : Mode) → plays_now g m ≡ true → m ≡ modes.Plays (on_move g)
mode_side g (modes.Plays s) e = ap (λ (x : Side). modes.Plays x) (same_sides s (on_move g) (and_parts (not (has_ended g)) (same_side s (on_move g)) e).1)
mode_side g modes.Force e = absurd (cc)
mode_side g modes.Over e = absurd (cc)
mode_side g modes.Analyse e = absurd (cc)

-- a desk that calls for a Move plays the side on move
side_on_move : (closed gone : Bool) (d : Desk) → is_move (call_of_desk closed gone d) ≡ true → d.mode ≡ modes.Plays (on_move d.game)
side_on_move closed gone d e = mode_side d.game d.mode (and_parts (not ((closed || gone) || is_full d.game)) (plays_now d.game d.mode) (sym (call_is closed gone d) ∙ e)).1

-- ROWS

row_loses : (Q : Side → Type 0) (h : Situation) (held : List _) (d : Effect) → EffectFitsDesk h held d → IsServed h
    → (h.settings.result_reasons ≡ true → h.desk.mode ≡ modes.Plays (on_move h.desk.game) → Q (on_move h.desk.game)) → AllByRecursion Q (losers_in (reply_row h d))
unfolding reply_row
row_loses Q h held (Shows best hint) f s q =
    let result = result_reply_of (game_played h.desk.game best) in
    let resign = resign_where (resigns_after h best) in
    none Q (cecp.Move best ∷ (result ++ resign))
    (losers_joined result resign
    ∙ ap (λ (l : List Side). l ++ losers_in resign) (none_lose result (no_result (on_move (game_played h.desk.game best)) (ended_of (game_played h.desk.game best))))
    ∙ resign_loses (resigns_after h best))
row_loses Q h held (Forfeits answer) f s q =
    given Q h.settings.result_reasons (on_move h.desk.game) (losses.IllegalMove (quoted answer))
    (λ r. q r (side_on_move h.closed (is_gone h.engine) h.desk (move_served (call_before h) (s f.0 kinds.Move f.1))))
row_loses Q h held Dies f s q =
    let list = list_where h.desk.due h.desk in
    let gone = given_up_where (resigns_at_end h) h.settings h.desk.game in
    both Q list (cecp.TellError user_error.Ended ∷ gone) (none Q list (none_lose list (no_list h.desk.due h.desk)))
    (given_where Q (resigns_at_end h) h.settings h.desk.game
    (λ b r. q r (side_on_move h.closed (is_gone h.engine) h.desk (owed_move h.spent (call_before h) (and_parts (is_move (owed_at h.spent (call_before h))) (not h.closed) b).0))))
row_loses Q h held d f s q = none Q (reply_row h d) (none_lose (reply_row h d) (row_is h d))

-- an engine that is gone gives up a game in which it plays the side on move
gone_side : (closed : Bool) (h : Situation) (d : Effect) → resigns_when_gone closed h d ≡ true → (desk_after_effect h d).mode ≡ modes.Plays (on_move (desk_after_effect h d).game)
gone_side closed h d w =
    let gone = is_gone h.engine || is_death d in
    let owing = is_move (call_of_desk closed false (desk_after_effect h d)) in
    side_on_move closed false (desk_after_effect h d) (and_parts gone owing (and_parts h.settings.resign_when_gone (gone && owing) w).1).1

module _ (Q : Side → Type 0) (h : Situation) (held : List _) (d : Effect) (f : EffectFitsDesk h held d) (s : IsServed h)
    (before : h.settings.result_reasons ≡ true → h.desk.mode ≡ modes.Plays (on_move h.desk.game) → Q (on_move h.desk.game))
    (after : h.settings.result_reasons ≡ true → (desk_after_effect h d).mode ≡ modes.Plays (on_move (desk_after_effect h d).game) → Q (on_move (desk_after_effect h d).game)) where
  step_loses : (closed owes hits : Bool) → AllByRecursion Q (losers_in (replies_of closed owes hits h d))
  step_loses true owes hits = tt
  step_loses false owes hits =
      let row = reply_row h d in
      let gone = given_up_where (resigns_when_gone false h d) h.settings (desk_after_effect h d).game in
      let again = repeated_thinking (h.settings.repeat_thinking && hits) (desk_after_effect h d).last_thinking in
      let pongs = cond owes [] (map cecp.Pong (desk_after_effect h d).pings) in
      both Q (row ++ gone ++ again) pongs
      (both Q (row ++ gone) again
      (both Q row gone (row_loses Q h held d f s before) (given_where Q (resigns_when_gone false h d) h.settings (desk_after_effect h d).game (λ w r. after r (gone_side false h d w))))
      (none Q again (none_lose again (no_repeated (h.settings.repeat_thinking && hits) (desk_after_effect h d).last_thinking))))
      (none Q pongs (none_lose pongs (no_pongs owes (desk_after_effect h d).pings)))

-- EACH TRACE

pub losers_are : (o : Settings) → LosersAreTheEngines o
losers_are o step t l =
    let s = state o t in
    let on : s.settings.result_reasons ≡ true → o.result_reasons ≡ true = λ r. sym (ap (λ (x : Settings). x.result_reasons) (settings_stay o t)) ∙ r in
    subst (λ (rs : List Reply). AllByRecursion (EngineLoses o s step.event) (losers_in rs)) (sym l.1.replies)
    (step_loses (EngineLoses o s step.event) (situation_of_state s) s.held (effect s step.event) (fits s step (lasts o t l.0) l.1) (lasts o t l.0).served
    (λ r m. record { reasons = on r; plays = inl m }) (λ r m. record { reasons = on r; plays = inr m })
    (closed_after s step.event) (is_move (owed_after s step.event)) (step_hits s step.event))
