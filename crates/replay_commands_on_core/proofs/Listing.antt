-- The result of the list of moves.
use Rattle.std.proofs.Common.{◌≡◌, ◌⊎◌, ℕ, List, Result, Ok, Err, IsOk, ⊎_elim, inl, inr, sym, ◌∙◌, subst}
use Rattle.std.specs.Io.KnownBytes.{Appends}
use Rattle.line_io.specs.Causes.{Rose}
use Rattle.line_io.specs.Source.{Received}
use Rattle.chess_board.specs.Position.{Position}
use Rattle.fen_text.specs.declared.fault.FenFault.{FenFault}
use Rattle.replay_commands_on_core.specs.Moves.{WritesMoves, move_lines, Lists, WantsMemory, Refuses, Writes_all, ListsAll, ListsPrefix, FindsNoPosition}
use Rattle.fen_text.specs.Fen.{position_of}
use Rattle.replay_command_base.specs.Diagnostics.{position_fault}
use Rattle.replay_commands_on_core.specs.Listed.{Listed}
use Rattle.replay_command_base.specs.Streams.{FilterStreams}
use Rattle.replay_command_base.proofs.Announcing as announced

module _ (spelled : Result Position FenFault) (kept silent : Type 0) (code : ℕ) (output output_now diag diag_now : Received) where
  abbrev L : Type 0
  L = Lists spelled kept silent code output output_now diag diag_now

  all_listed : (p : Position) → spelled ≡ Ok p → WritesMoves p silent code output output_now diag diag_now → code ≡ 0 → silent × (output_now.faults ≡ output.faults) × ListsAll spelled output output_now
  all_listed p s w z = let x = announced.written_zero silent code output output_now diag diag_now (move_lines w.moves) w.writes z in (x.0, x.2, record { position = p; is_spelled = s; moves = w.moves; legal = w.legal; written = x.1 })

  all : L → code ≡ 0 → silent × (output_now.faults ≡ output.faults) × ListsAll spelled output output_now
  all (WantsMemory k t) z = absurd (announced.no_announced code diag diag_now 3 _ 0 (λ e. cc) (λ e. cc) t z)
  all (Refuses f s k t) z = absurd (announced.no_announced code diag diag_now 2 _ 0 (λ e. cc) (λ e. cc) t z)
  all (Writes_all p s w) z = all_listed p s w z

  refused : L → code ≡ 2 → kept × FindsNoPosition spelled diag diag_now
  refused (WantsMemory k t) z = absurd (announced.no_announced code diag diag_now 3 _ 2 (λ e. cc) (λ e. cc) t z)
  refused (Refuses f s k t) z = ⊎_elim (λ x. (k, record { fault = f; is_spelled = s; is_announced = x.1 })) (λ e. cc) (announced.other_announced code diag diag_now 2 _ t 2 z)
  refused (Writes_all p s w) z = absurd (announced.no_written silent code output output_now diag diag_now _ 2 (λ e. cc) (λ e. cc) w.writes z)

  pub wants : L → code ≡ 3 → kept
  wants (WantsMemory k t) z = k
  wants (Refuses f s k t) z = k
  wants (Writes_all p s w) z = absurd (announced.no_written silent code output output_now diag diag_now _ 3 (λ e. cc) (λ e. cc) w.writes z)

  prefix : L → code ≡ 5 → (Rose output.faults output_now.faults ⊎ Rose diag.faults diag_now.faults) × (kept ⊎ ListsPrefix spelled output output_now)
  prefix (WantsMemory k t) z = (inr (announced.announced_rose code diag diag_now 3 _ (λ e. cc) t z), inl k)
  prefix (Refuses f s k t) z = (inr (announced.announced_rose code diag diag_now 2 _ (λ e. cc) t z), inl k)
  prefix (Writes_all p s w) z = let x = announced.cut silent code output output_now diag diag_now _ w.writes z in (inl x.0, inr (record { position = p; is_spelled = s; moves = w.moves; legal = w.legal; written = x.1 }))

  not_reading : L → code ≡ 4 → ⊥
  not_reading (WantsMemory k t) z = announced.no_announced code diag diag_now 3 _ 4 (λ e. cc) (λ e. cc) t z
  not_reading (Refuses f s k t) z = announced.no_announced code diag diag_now 2 _ 4 (λ e. cc) (λ e. cc) t z
  not_reading (Writes_all p s w) z = announced.no_written silent code output output_now diag diag_now _ 4 (λ e. cc) (λ e. cc) w.writes z

  not_long : L → code ≡ 6 → ⊥
  not_long (WantsMemory k t) z = announced.no_announced code diag diag_now 3 _ 6 (λ e. cc) (λ e. cc) t z
  not_long (Refuses f s k t) z = announced.no_announced code diag diag_now 2 _ 6 (λ e. cc) (λ e. cc) t z
  not_long (Writes_all p s w) z = announced.no_written silent code output output_now diag diag_now _ 6 (λ e. cc) (λ e. cc) w.writes z

  no_ok : (s : Result Position FenFault) (f : FenFault) → s ≡ Err f → IsOk s → ⊥
  no_ok (Ok p) f e k = cc
  no_ok (Err g) f e k = cc

  one_fault : (s : Result Position FenFault) (f g : FenFault) → s ≡ Err f → s ≡ Err g → f ≡ g
  one_fault (Ok p) f g a b = cc
  one_fault (Err h) f g a b = cc

  complete : L → (Rose output.faults output_now.faults → ⊥) → (Rose diag.faults diag_now.faults → ⊥) → IsOk spelled → (code ≡ 0) ⊎ (code ≡ 3)
  complete (WantsMemory k t) w d ok = inr (announced.announced_out code diag diag_now 3 _ d t).0
  complete (Refuses f s k t) w d ok = absurd (no_ok spelled f s ok)
  complete (Writes_all p s x) w d ok = inl (announced.written_out silent code output output_now diag diag_now _ w x.writes)

  faulty : L → (Rose diag.faults diag_now.faults → ⊥) → (fault : FenFault) → spelled ≡ Err fault → ((code ≡ 2) × Appends diag.taken diag_now.taken (position_fault fault)) ⊎ (code ≡ 3)
  faulty (WantsMemory k t) d fault s = inr (announced.announced_out code diag diag_now 3 _ d t).0
  faulty (Refuses f e k t) d fault s = let x = announced.announced_out code diag diag_now 2 _ d t in inl (x.0, subst (λ (y : FenFault). Appends diag.taken diag_now.taken (position_fault y)) (one_fault spelled f fault e s) x.1)
  faulty (Writes_all p e x) d fault s = let both = sym e ∙ s in cc

pub listed : (text : List ℕ) (unread kept silent : Type 0) (start now : FilterStreams) (code : ℕ) → unread
    → Lists (position_of text) kept silent code start.output now.output start.diag now.diag → Listed text unread kept silent start now code
listed text unread kept silent start now code u l = record {
  unread = u;
  ended = l;
  all_listed = λ z. let x = all (position_of text) kept silent code start.output now.output start.diag now.diag l z in record { moves = x.2; silent = x.0; no_failure = x.1 };
  no_position = refused (position_of text) kept silent code start.output now.output start.diag now.diag l;
  no_memory = wants (position_of text) kept silent code start.output now.output start.diag now.diag l;
  writing_failed = prefix (position_of text) kept silent code start.output now.output start.diag now.diag l;
  no_reading = (
    not_reading (position_of text) kept silent code start.output now.output start.diag now.diag l,
    not_long (position_of text) kept silent code start.output now.output start.diag now.diag l,
  );
  complete = λ ok steady. complete (position_of text) kept silent code start.output now.output start.diag now.diag l steady.written steady.announced ok;
  fault_announced = λ fault s steady. faulty (position_of text) kept silent code start.output now.output start.diag now.diag l steady.announced fault s;
}
