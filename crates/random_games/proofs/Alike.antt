-- A drill of a number and a count has one line.
use Rattle.std.proofs.Common.{◌≡◌, ℕ, zero, suc, ◌<◌, List, [], ◌∷◌, ◌++◌, length, Option, Some, None, refl, sym, ap, subst, ◌∙◌, inl, inr, arith}
use Rattle.std.specs.Prelude.{Contains, slice_get}
use Rattle.std.specs.Ordering.{ordering_reverse}
use Rattle.std.proofs.lemmas.Cmp.{nat_list_cmp_total}
use Rattle.std.proofs.lemmas.Bool.{both_ways}
use Rattle.line_io.specs.Event.{Event, Open}
use Rattle.chess_board.specs.declared.board.Move.{Move}
use Rattle.chess_board.specs.Play.{HasLegal}
use Rattle.chess_board.specs.Text.{text_of_move, ComesBefore}
use Rattle.fen_text.specs.Written.{position_fen}
use Rattle.game_record.specs.Game.{current_position}
use Rattle.policy_rules.specs.SettingRules.Policy.{usual}
use Rattle.desk_rules.specs.Desk.{has_ended}
use Rattle.adapter_core.specs.Trace.{Step}
use Rattle.adapter_core.proofs.Unique.{unique}
use Rattle.trace_scripts.proofs.Scripts.{same_trace}
use Rattle.random_games.specs.Generator.{next, place_of}
use Rattle.random_games.specs.Rounds.{Drill, Draws, Misses, DrillAnswers, Nothing, Alone, WithHint, Round, Rounds, renewal, unspent_drill, entry, drill_after_move, drill_with_hint, answer, answer_with, greeting_events, preparation, closing_events, first_drill}
use Rattle.random_games.specs.Tally.{tally_of, drill_report_line}
use Rattle.random_games.specs.Alike.{DrillsAreOne}
use Rattle.random_games.proofs.Ordered.{same_lists}

-- DRAWS

not_both : (a b : Move) → ComesBefore a b → ComesBefore b a → ⊥
not_both a b h k = let e = sym h ∙ nat_list_cmp_total.antisymm (text_of_move a) (text_of_move b) ∙ ap ordering_reverse k in cc

same_moves : (s : Drill) (m n : Move) (d : Draws s m) (e : Draws s n) → d.moves ≡ e.moves
same_moves s m n d e = same_lists ComesBefore not_both d.moves e.moves d.legal.ordered e.legal.ordered (λ x. (λ c. (e.legal.each x).1 ((d.legal.each x).0 c), λ c. (d.legal.each x).1 ((e.legal.each x).0 c)))

one_drawn : (s : Drill) (m n : Move) → Draws s m → Draws s n → m ≡ n
one_drawn s m n d e =
    let both = sym d.drawn ∙ ap (λ (ms : List Move). slice_get ms (place_of (next s.seed) (length ms))) (same_moves s m n d e) ∙ e.drawn in
    of_some m n both where
      of_some : (a b : Move) → Some a ≡ Some b → a ≡ b
      of_some a b e = cc

-- PARTS OF A ROUND

one_missed : (hint : Option Move) (m : Move) (es fs : List Event) → Misses hint m es → Misses hint m fs → es ≡ fs
one_missed None m es fs a b = a ∙ sym b
one_missed (Some hint) m es fs (inl a) (inl b) = a.1 ∙ sym b.1
one_missed (Some hint) m es fs (inl a) (inr b) = absurd (b.0 a.0)
one_missed (Some hint) m es fs (inr a) (inl b) = absurd (a.0 b.0)
one_missed (Some hint) m es fs (inr a) (inr b) = a.1 ∙ sym b.1

-- events, and the stand after them
abbrev Both : List Event → List Event → Drill → Drill → Type 0
Both es fs s t = (es ≡ fs) × (s ≡ t)

has_drawn : (s : Drill) (m : Move) → Draws s m → HasLegal (current_position s.game)
has_drawn s m d = of d.moves refl where
  some : (x : Move) (xs : List Move) → d.moves ≡ x ∷ xs → Contains d.moves x
  some x xs e = subst (λ (ms : List Move). Contains ms x) (sym e) (0, (let z : 0 < suc (length xs) = omega arith in z), refl)

  of : (ms : List Move) → d.moves ≡ ms → HasLegal (current_position s.game)
  of [] e = let z = sym d.drawn ∙ ap (λ (ms : List Move). slice_get ms (place_of (next s.seed) (length ms))) e in cc
  of (x ∷ xs) e = record { move = x; legal = (d.legal.each x).0 (some x xs e) }

one_answer : (s : Drill) (es fs : List Event) (t u : Drill) → DrillAnswers s es t → DrillAnswers s fs u → Both es fs t u
one_answer s es fs t u (Nothing h e f) (Nothing k g i) = (e ∙ sym g, f ∙ sym i)
one_answer s es fs t u (Nothing h e f) (Alone n k d l g i) = absurd (both_ways (has_ended s.game) k h)
one_answer s es fs t u (Nothing h e f) (WithHint n hint k d l g i) = absurd (both_ways (has_ended s.game) k h)
one_answer s es fs t u (Alone m h d l e f) (Nothing k g i) = absurd (both_ways (has_ended s.game) h k)
one_answer s es fs t u (WithHint m hint h d l e f) (Nothing k g i) = absurd (both_ways (has_ended s.game) h k)
one_answer s es fs t u (Alone m h d l e f) (Alone n k x y g i) = let same = one_drawn s m n d x in (e ∙ ap answer same ∙ sym g, f ∙ ap (λ (z : Move). drill_after_move s z) same ∙ sym i)
one_answer s es fs t u (Alone m h d l e f) (WithHint n hint k x y g i) = let same = one_drawn s n m x d in absurd (l (subst (λ (z : Move). HasLegal (current_position (drill_after_move s z).game)) same (has_drawn (drill_after_move s n) hint y)))
one_answer s es fs t u (WithHint m hint h d l e f) (Alone n k x y g i) = let same = one_drawn s m n d x in absurd (y (subst (λ (z : Move). HasLegal (current_position (drill_after_move s z).game)) same (has_drawn (drill_after_move s m) hint l)))
one_answer s es fs t u (WithHint m a h d l e f) (WithHint n b k x y g i) =
    let same = one_drawn s m n d x in
    let hints = one_drawn (drill_after_move s n) a b (subst (λ (z : Move). Draws (drill_after_move s z) a) same l) y in (
      e ∙ ap (λ (z : Move). answer_with z a) same ∙ ap (λ (z : Move). answer_with n z) hints ∙ sym g,
      f ∙ ap (λ (z : Move). drill_with_hint (drill_after_move s z) a) same ∙ ap (λ (z : Move). drill_with_hint (drill_after_move s n) z) hints ∙ sym i,
    )

-- ROUNDS

one_round : (s : Drill) (es fs : List Event) (t u : Drill) → Round s es t → Round s fs u → Both es fs t u
one_round s es fs t u a b =
    let b0 = unspent_drill s in
    let m = one_drawn b0 a.entered b.entered a.drawn b.drawn in
    let missed = one_missed b0.hint b.entered a.missed b.missed (subst (λ (z : Move). Misses b0.hint z a.missed) m a.misses) b.misses in
    let answered = one_answer (drill_after_move b0 b.entered) a.answered b.answered t u (subst (λ (z : Move). DrillAnswers (drill_after_move b0 z) a.answered t) m a.answers) b.answers in (
      a.events_are ∙ ap (λ (z : Move). renewal s ++ (entry z ++ (a.missed ++ a.answered))) m ∙ ap (λ (z : List Event). renewal s ++ (entry b.entered ++ (z ++ a.answered))) missed
          ∙ ap (λ (z : List Event). renewal s ++ (entry b.entered ++ (b.missed ++ z))) answered.0 ∙ sym b.events_are,
      answered.1,
    )

one_course : (n : ℕ) (s : Drill) (es fs : List Event) (t u : Drill) → Rounds n s es t → Rounds n s fs u → Both es fs t u
one_course zero s es fs t u a b = (a.0 ∙ sym b.0, a.1 ∙ sym b.1)
one_course (suc n) s es fs t u (p, first, last, many, one, e) (q, first', last', many', one', e') =
    let before = one_course n s first first' p q many many' in
    let after = one_round q last last' t u (subst (λ (z : Drill). Round z last t) before.1 one) one' in
    (e ∙ ap (λ (z : List Event). z ++ last) before.0 ∙ ap (λ (z : List Event). first' ++ z) after.0 ∙ sym e', after.1)

-- LINES

pub drills_alike : DrillsAreOne
drills_alike number count line line' a b =
    let both = one_course count (first_drill number) a.rounds b.rounds a.last b.last a.plays b.plays in
    let heard = a.events_are ∙ ap (λ (z : List Event). Open ∷ (greeting_events ++ (preparation ++ (z ++ closing_events)))) both.0 ∙ sym b.events_are in
    let trace = same_trace usual (unique usual) a.trace b.trace a.lawful b.lawful heard in
    a.line_is ∙ ap (λ (z : List Step). drill_report_line number count (tally_of z) (position_fen (current_position a.last.game))) trace ∙ ap (λ (z : Drill). drill_report_line number count (tally_of b.trace) (position_fen (current_position z.game))) both.1 ∙ sym b.line_is
