-- The parts of a round make a round.
use Rattle.std.proofs.Common.{◌≡◌, ℕ, suc, List, [], ◌++◌, false, if◌then◌else◌, Option, Some, None, refl, sym, ap, subst, ◌∙◌, append_assoc}
use Rattle.line_io.specs.Event.{Event}
use Rattle.chess_board.specs.declared.board.Move.{Move}
use Rattle.chess_board.specs.Play.{HasLegal}
use Rattle.game_record.specs.Game.{Game, ply_of, current_position, with_ply}
use Rattle.desk_rules.specs.Desk.{has_ended}
use Rattle.random_games.specs.declared.round.Drill.{Drill}
use Rattle.random_games.specs.Generator.{next}
use Rattle.random_games.specs.Rounds.{Drill as AnyDrill, Draws, Misses, DrillAnswers, Alone, WithHint, drill_after_move, drill_with_hint, ponders, renewal, unspent_drill, entry, answer, answer_with}
use Rattle.random_games.specs.Sent.{DrillSession, Sent}
use Rattle.random_games.specs.Stood.{stand_of, UserMoves, HintDrawn, EngineMoves, RoundPlayed, RoundsPlayed}
use Rattle.random_games.proofs.Sending.{sent_both}

pub played : (old begun entered new : Drill) → Sent old.session begun.session (renewal (stand_of old)) → stand_of begun ≡ unspent_drill (stand_of old) → UserMoves begun entered → EngineMoves entered new → RoundPlayed old new
played old begun entered new sent stands user engine =
    let s = stand_of old in
    let m = user.entered in
    let last = sent_both begun.session entered.session new.session (entry m ++ user.missed) engine.answered user.sent engine.sent in
    let es = entry m ++ (user.missed ++ engine.answered) in
    let both = subst (λ (l : List Event). Sent begun.session new.session l) (append_assoc (entry m) user.missed engine.answered) last in
    record {
      events = renewal s ++ es;
      round = record {
        entered = m;
        drawn = subst (λ (x : AnyDrill). Draws x m) stands user.drawn;
        missed = user.missed;
        misses = subst (λ (x : AnyDrill). Misses x.hint m user.missed) stands user.misses;
        answered = engine.answered;
        answers = subst (λ (x : AnyDrill). DrillAnswers x engine.answered (stand_of new)) (user.stand ∙ ap (λ (x : AnyDrill). drill_after_move x m) stands) engine.answers;
        events_are = refl;
      };
      sent = sent_both old.session begun.session new.session (renewal s) es sent both;
    }

-- one round more
pub one_more : (n : ℕ) (first old new : Drill) → RoundsPlayed n first old → RoundPlayed old new → RoundsPlayed (suc n) first new
one_more n first old new many one = record {
  events = many.events ++ one.events;
  rounds = (stand_of old, many.events, one.events, many.rounds, one.round, refl);
  sent = sent_both first.session old.session new.session many.events one.events many.sent one.sent;
}

pub none_yet : (first : Drill) → RoundsPlayed 0 first first
none_yet first = record { events = []; rounds = (refl, refl); sent = refl }

-- THE STAND AFTER A MOVE

abbrev stand : ℕ → Game → Option Move → AnyDrill
stand seed game hint = record { seed = seed; game = game; hint = hint }

-- a hint that was drawn is kept where the engine ponders on it
pub hint_kept : (old drawn : Drill) (hint : Move) (kept : Option Move) → drawn ≡ record old { seed = next old.seed } → kept ≡ (if ponders drawn.game hint then Some hint else None)
    → record { seed = drawn.seed; game = drawn.game; hint = kept } ≡ drill_with_hint (stand_of old) hint
hint_kept old drawn hint kept e k =
    ap (λ (h : Option Move). stand drawn.seed drawn.game h) k ∙ ap (λ (d : Drill). stand d.seed d.game (if ponders d.game hint then Some hint else None)) e

-- a move that was drawn was played
pub move_played : (old drawn new : Drill) (m : Move) (session : DrillSession) → drawn ≡ record old { seed = next old.seed } → new ≡ record drawn { session = session; game = with_ply drawn.game (ply_of m) }
    → (new.seed ≡ next old.seed) × (new.game ≡ with_ply old.game (ply_of m)) × (new.hint ≡ old.hint) × (new.session ≡ session)
move_played old drawn new m session e f = (
  ap (λ (d : Drill). d.seed) f ∙ ap (λ (d : Drill). d.seed) e,
  ap (λ (d : Drill). d.game) f ∙ ap (λ (d : Drill). with_ply d.game (ply_of m)) e,
  ap (λ (d : Drill). d.hint) f ∙ ap (λ (d : Drill). d.hint) e,
  ap (λ (d : Drill). d.session) f,
)

pub stand_moved : (old : Drill) (m : Move) (seed : ℕ) (game : Game) → seed ≡ next old.seed → game ≡ with_ply old.game (ply_of m) → record { seed = seed; game = game; hint = None } ≡ drill_after_move (stand_of old) m
stand_moved old m seed game e f = ap (λ n. stand n game None) e ∙ ap (λ (g : Game). stand (next old.seed) g None) f

-- THE MOVES OF A ROUND

pub user_moves : (old drawn new : Drill) (m : Move) (entered answered : DrillSession) → Draws (stand_of old) m → drawn ≡ record old { seed = next old.seed }
    → Sent drawn.session entered (entry m) → (missed : (es : List Event) × Misses drawn.hint m es × Sent entered answered es) → new ≡ record drawn { session = answered; game = with_ply drawn.game (ply_of m) }
    → UserMoves old (record { session = new.session; game = new.game; seed = new.seed; hint = None })
user_moves old drawn new m entered answered d e enters missed f =
    let p = move_played old drawn new m answered e f in
    let enters' = subst (λ (x : Drill). Sent x.session entered (entry m)) e enters in
    record {
      entered = m;
      drawn = d;
      missed = missed.0;
      misses = subst (λ (x : Drill). Misses x.hint m missed.0) e missed.1;
      sent = subst (λ (x : DrillSession). Sent old.session x (entry m ++ missed.0)) (sym p.3) (sent_both old.session entered answered (entry m) missed.0 enters' missed.2);
      stand = stand_moved old m new.seed new.game p.0 p.1;
    }

-- the engine answers without a hint
pub answers_alone : (old drawn played : Drill) (m : Move) (answered : DrillSession) → old.hint ≡ None → has_ended old.game ≡ false → Draws (stand_of old) m → drawn ≡ record old { seed = next old.seed }
    → played ≡ record drawn { session = drawn.session; game = with_ply drawn.game (ply_of m) } → (HasLegal (current_position played.game) → ⊥) → Sent played.session answered (answer m)
    → EngineMoves old (record { session = answered; game = played.game; seed = played.seed; hint = played.hint })
answers_alone old drawn played m answered none still d e f stuck sends =
    let p = move_played old drawn played m drawn.session e f in
    record {
      answered = answer m;
      answers = Alone m still d (λ h. stuck (subst (λ (g : Game). HasLegal (current_position g)) (sym p.1) h)) refl (ap (λ (h : Option Move). stand played.seed played.game h) (p.2 ∙ none) ∙ stand_moved old m played.seed played.game p.0 p.1);
      sent = subst (λ (x : DrillSession). Sent x answered (answer m)) (p.3 ∙ ap (λ (x : Drill). x.session) e) sends;
    }

-- or with one
pub answers_hinted : (old drawn played new : Drill) (m : Move) → old.hint ≡ None → has_ended old.game ≡ false → Draws (stand_of old) m → drawn ≡ record old { seed = next old.seed }
    → played ≡ record drawn { session = drawn.session; game = with_ply drawn.game (ply_of m) } → HintDrawn played new m → EngineMoves old new
answers_hinted old drawn played new m none still d e f h =
    let p = move_played old drawn played m drawn.session e f in
    let stands : stand_of played ≡ drill_after_move (stand_of old) m = ap (λ (k : Option Move). stand played.seed played.game k) (p.2 ∙ none) ∙ stand_moved old m played.seed played.game p.0 p.1 in
    record {
      answered = answer_with m h.hint;
      answers = WithHint m h.hint still d (subst (λ (s : AnyDrill). Draws s h.hint) stands h.drawn) refl (h.stand ∙ ap (λ (s : AnyDrill). drill_with_hint s h.hint) stands);
      sent = subst (λ (x : DrillSession). Sent x new.session (answer_with m h.hint)) (p.3 ∙ ap (λ (x : Drill). x.session) e) h.sent;
    }
