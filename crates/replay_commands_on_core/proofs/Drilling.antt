-- The result of a drill.
use Rattle.std.proofs.Common.{◌≡◌, ◌⊎◌, ℕ, inl, inr}
use Rattle.line_io.specs.Causes.{Rose}
use Rattle.line_io.specs.Source.{Received}
use Rattle.replay_commands_on_core.specs.Drilled.{Drilled, PlaysDrill, DrillsAll, DrillsPrefix, Plays, WantsMemory}
use Rattle.replay_command_base.specs.Streams.{FilterStreams}
use Rattle.random_games.proofs.Alike.{drills_alike}
use Rattle.replay_command_base.proofs.Announcing as announced

module _ (number count : ℕ) (kept silent : Type 0) (code : ℕ) (output output_now diag diag_now : Received) where
  abbrev P : Type 0
  P = PlaysDrill number count kept silent code output output_now diag diag_now

  not_memory : (n : ℕ) → (3 ≡ n → ⊥) → (n ≡ 0 → ⊥) → (n ≡ 5 → ⊥) → P → code ≡ n → ⊥
  not_memory n m a b (WantsMemory k t) z = announced.no_announced code diag diag_now 3 _ n m b t z
  not_memory n m a b (Plays line d w) z = announced.no_written silent code output output_now diag diag_now line n a b w z

  all : P → code ≡ 0 → silent × (output_now.faults ≡ output.faults) × DrillsAll number count output output_now
  all (WantsMemory k t) z = absurd (announced.no_announced code diag diag_now 3 _ 0 (λ e. cc) (λ e. cc) t z)
  all (Plays line d w) z = let x = announced.written_zero silent code output output_now diag diag_now line w z in (x.0, x.2, record { line = line; drills = d; only = λ other e. drills_alike number count other line e d; written = x.1 })

  pub wants : P → code ≡ 3 → kept
  wants (WantsMemory k t) z = k
  wants (Plays line d w) z = absurd (announced.no_written silent code output output_now diag diag_now line 3 (λ e. cc) (λ e. cc) w z)

  prefix : P → code ≡ 5 → (Rose output.faults output_now.faults ⊎ Rose diag.faults diag_now.faults) × (kept ⊎ DrillsPrefix number count output output_now)
  prefix (WantsMemory k t) z = (inr (announced.announced_rose code diag diag_now 3 _ (λ e. cc) t z), inl k)
  prefix (Plays line d w) z = let x = announced.cut silent code output output_now diag diag_now line w z in (inl x.0, inr (record { line = line; drills = d; written = x.1 }))

  not_reading : P → code ≡ 4 → ⊥
  not_reading p z = not_memory 4 (λ e. cc) (λ e. cc) (λ e. cc) p z

  not_long : P → code ≡ 6 → ⊥
  not_long p z = not_memory 6 (λ e. cc) (λ e. cc) (λ e. cc) p z

  complete : P → (Rose output.faults output_now.faults → ⊥) → (Rose diag.faults diag_now.faults → ⊥) → (code ≡ 0) ⊎ (code ≡ 3)
  complete (WantsMemory k t) w d = inr (announced.announced_out code diag diag_now 3 _ d t).0
  complete (Plays line p x) w d = inl (announced.written_out silent code output output_now diag diag_now line w x)

pub drilled : (number count : ℕ) (unread kept silent : Type 0) (start now : FilterStreams) (code : ℕ) → unread
    → PlaysDrill number count kept silent code start.output now.output start.diag now.diag → Drilled number count unread kept silent start now code
drilled number count unread kept silent start now code u p = record {
  unread = u;
  ended = p;
  all_played = λ z. let x = all number count kept silent code start.output now.output start.diag now.diag p z in record { line = x.2; silent = x.0; no_failure = x.1 };
  no_memory = wants number count kept silent code start.output now.output start.diag now.diag p;
  writing_failed = prefix number count kept silent code start.output now.output start.diag now.diag p;
  no_reading = (
    not_reading number count kept silent code start.output now.output start.diag now.diag p,
    not_long number count kept silent code start.output now.output start.diag now.diag p,
  );
  complete = λ steady. complete number count kept silent code start.output now.output start.diag now.diag p steady.written steady.announced;
}
