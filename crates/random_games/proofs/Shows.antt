-- A step that shows a move shows it first.
use Rattle.std.proofs.Common.{◌≡◌, ℕ, zero, suc, ◌+◌, ◌/◌, ◌%◌, ◌<◌, ◌==◌, List, [], ◌∷◌, ◌++◌, length, Bool, true, false, cond, refl, ap, sym, subst, ◌∙◌, arith, eqb}
use Rattle.std.proofs.lemmas.Bool.Decides.{nat_tests}
use Rattle.std.specs.Fmt.{decimal, digits, digits_onto, digit_glyph}
use Rattle.chess_board.specs.declared.board.Move.{Move as AnyMove}
use Rattle.chess_board.specs.declared.board.Side.TheVariants.{White, Black}
use Rattle.cecp_lines.specs.declared.reply.UserError.TheVariants as user_errors
use Rattle.cecp_lines.specs.declared.reply.Outcome.TheVariants as outcomes
use Rattle.cecp_lines.specs.Replies.{Reply}
use Rattle.cecp_lines.specs.Replies as cecp
use Rattle.option_map.specs.FeatureLists.Features.{reply_lines}
use Rattle.policy_rules.specs.declared.setting_rules.settings.Settings.{Settings}
use Rattle.search_epochs.specs.Tickets.{is_move}
use Rattle.desk_rules.specs.Desk.{Situation}
use Rattle.desk_rules.specs.Steps.{Effect, Shows}
use Rattle.desk_rules.specs.Replies.{replies_of, reply_row}
use Rattle.adapter_core.specs.Shown.{moves_shown}
use Rattle.adapter_core.specs.Trace.{Step, LawfulTrace, iface_text, engine_text, state, situation_of_state, effect, owed_after, closed_after, step_hits}
use Rattle.adapter_core.proofs.Shown.{open_shows, shown_by}
use Rattle.line_io.specs.Lines.{parts_by_feed}
use Rattle.random_games.specs.declared.tally.Tally.{Tally}
use Rattle.random_games.specs.Tally.{games_tally_after}
use Rattle.random_games.specs.Sent.{counted_texts, shows_move}

-- a text that begins with a digit
abbrev Begins : List ℕ → Type 0
Begins text = (e : ℕ) × (ds : List ℕ) × (text ≡ (48 + e) ∷ ds) × (e < 10)

begins_more : (text more : List ℕ) → Begins text → Begins (text ++ more)
begins_more text more b = (b.0, b.1 ++ more, ap (λ l. l ++ more) b.2, b.3)

glyph : (x : ℕ) → x < 10 → digit_glyph false x ≡ 48 + x
glyph x l = grind (arith, nat_tests)

one_digit : (k n : ℕ) (acc : List ℕ) → Begins (digits_onto k 10 false (n / 10) ((48 + n % 10) ∷ acc)) → Begins (digits_onto (suc k) 10 false n acc)
one_digit k n acc more = by (n / 10 == 0) where
  by : (b : Bool) → Begins (cond b (digit_glyph false (n % 10) ∷ acc) (digits_onto k 10 false (n / 10) (digit_glyph false (n % 10) ∷ acc)))
  by true = (n % 10, acc, ap (λ x. x ∷ acc) (glyph (n % 10) (omega arith)), omega arith)
  by false = subst (λ x. Begins (digits_onto k 10 false (n / 10) (x ∷ acc))) (sym (glyph (n % 10) (omega arith))) more

digits_begin : (k n d : ℕ) (acc : List ℕ) → d < 10 → Begins (digits_onto k 10 false n ((48 + d) ∷ acc))
digits_begin zero n d acc l = (d, acc, refl, l)
digits_begin (suc k) n d acc l = one_digit k n ((48 + d) ∷ acc) (digits_begin k (n / 10) (n % 10) ((48 + d) ∷ acc) (omega arith))

decimal_begins : (n : ℕ) → Begins (decimal n)
unfolding digits
decimal_begins n = one_digit 63 n [] (digits_begin 63 (n / 10) (n % 10) [] (omega arith))

-- such a text shows no move
none_shown : (text : List ℕ) → Begins text → shows_move text ≡ false
none_shown text b = ap shows_move b.2 ∙ other b.0 b.1 b.3 where
  other : (e : ℕ) (ds : List ℕ) → e < 10 → shows_move ((48 + e) ∷ ds) ≡ false
  other e ds l = let z : eqb 109 (48 + e) ≡ false = grind (arith, nat_tests) in rw z refl

thinking_begins : (depth : ℕ) (a b c d e f g : List ℕ) → Begins ((((((((decimal depth ++ a) ++ b) ++ c) ++ d) ++ e) ++ f) ++ g))
thinking_begins depth a b c d e f g =
    begins_more _ g (begins_more _ f (begins_more _ e (begins_more _ d (begins_more _ c (begins_more _ b (begins_more _ a (decimal_begins depth)))))))

-- lines that show no move do not begin with one
none_first : (rs : List Reply) → moves_shown rs ≡ [] → shows_move (reply_lines rs) ≡ false
none_first (cecp.Move m ∷ rs) e = cc
none_first (cecp.Thinking depth score time nodes spelling hint pv ∷ rs) e =
    none_shown (reply_lines (cecp.Thinking depth score time nodes spelling hint pv ∷ rs)) (begins_more _ (reply_lines rs) (thinking_begins depth (32 ∷ []) _ _ _ _ pv (10 ∷ [])))
none_first (cecp.TellError user_errors.Position ∷ rs) e = refl
none_first (cecp.Result outcomes.WhiteMates ∷ rs) e = refl
none_first (cecp.Lost White loss ∷ rs) e = refl
none_first (cecp.Lost Black loss ∷ rs) e = refl
none_first rs e = refl

-- the count of moves of lines, by how they begin
shown_next : (n : ℕ) (rs : List Reply) (ms : List AnyMove) → moves_shown rs ≡ ms → ms ≡ [] → cond (shows_move (reply_lines rs)) (n + 1) n ≡ n + length (moves_shown rs)
shown_next n rs ms e z = ap (λ (b : Bool). cond b (n + 1) n) (none_first rs (e ∙ z)) ∙ (let q : n ≡ n + length (moves_shown rs) = omega (arith, ap length (e ∙ z)) in q)

one_next : (n : ℕ) (m : AnyMove) (rs : List Reply) → moves_shown rs ≡ m ∷ [] → shows_move (reply_lines rs) ≡ true → cond (shows_move (reply_lines rs)) (n + 1) n ≡ n + length (moves_shown rs)
one_next n m rs e z = ap (λ (b : Bool). cond b (n + 1) n) z ∙ (let q : n + 1 ≡ n + length (moves_shown rs) = omega (arith, ap length e) in q)

by_effect : (n : ℕ) (closed owes hits : Bool) (h : Situation) (d : Effect) → cond (shows_move (reply_lines (replies_of closed owes hits h d))) (n + 1) n ≡ n + length (moves_shown (replies_of closed owes hits h d))
unfolding reply_row
by_effect n true owes hits h d = omega arith
by_effect n false owes hits h (Shows best hint) = one_next n best (replies_of false owes hits h (Shows best hint)) (open_shows owes hits h (Shows best hint)) refl
by_effect n false owes hits h d = shown_next n (replies_of false owes hits h d) (shown_by d) (open_shows owes hits h d) refl

-- a lawful step shows a move exactly where what it wrote begins with one
pub is_shown : (o : Settings) (step : Step) (t : List Step) (n : ℕ) → LawfulTrace o (step ∷ t) → cond (shows_move (reply_lines step.replies)) (n + 1) n ≡ n + length (moves_shown step.replies)
is_shown o step t n l =
    let s = state o t in
    subst (λ (rs : List Reply). cond (shows_move (reply_lines rs)) (n + 1) n ≡ n + length (moves_shown rs)) (sym l.1.replies) (by_effect n (closed_after s step.event) (is_move (owed_after s step.event)) (step_hits s step.event) (situation_of_state s) (effect s step.event))

-- so what it wrote counts it
pub counts_step : (o : Settings) (step : Step) (t : List Step) (tally : Tally) → LawfulTrace o (step ∷ t) → counted_texts tally (iface_text step) (engine_text step) ≡ games_tally_after tally step
counts_step o step t tally l =
    ap with_shown (is_shown o step t tally.shown l) where
      with_shown : ℕ → Tally
      with_shown n = record { steps = tally.steps + 1; to_iface = tally.to_iface + length (parts_by_feed (iface_text step)); to_engine = tally.to_engine + length (parts_by_feed (engine_text step)); shown = n }
