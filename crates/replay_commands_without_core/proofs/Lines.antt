-- Lines that are migrated, one by one.
use Rattle.std.proofs.Common.{◌≡◌, ℕ, suc, ◌+◌, ◌<◌, ◌^◌, List, [], ◌∷◌, ◌++◌, length, Bool, true, false, Option, Some, None, is_some, refl, sym, ap, subst, ◌∙◌, arith, append_assoc, append-nil}
use Rattle.line_io.specs.Event.{Event, event_of}
use Rattle.line_io.specs.Lines.{Piece, Whole}
use Rattle.line_io.specs.Out.{Text}
use Rattle.policy_rules.specs.SettingRules.Policy.{IsProper}
use Rattle.policy_rules.specs.declared.setting_rules.settings.Settings.{Settings}
use Rattle.script_lines.specs.Marks.{Mark, Happens, mark_spelled}
use Rattle.script_lines.specs.StepLine.{step_number_line, step_number}
use Rattle.replay_command_base.specs.declared.ending.Ending.{Ending}
use Rattle.replay_command_base.specs.declared.ending.Ending.TheVariants as endings
use Rattle.replay_command_base.specs.Putting.{IsOfLine}
use Rattle.replay_commands_without_core.specs.declared.migration.Migration.{Migration}
use Rattle.replay_commands_without_core.specs.Begun.{ScriptIsBegun, Migrates, PutFor, IsMigrationEnd, IsSoundMigration, IsNumber, unput_beginning, step_number_by}
use Rattle.replay_commands_without_core.specs.Migration.{AreMarked, migrated_beginning, line_migrated, migrated_line_text, lines_migrated, mark_to_migrate, script_with_header, steps_after, steps_over, text_in}

pub steps_more : (steps : ℕ) (lines : List Piece) (p : Piece) → steps_over steps (lines ++ p ∷ []) ≡ steps_after (steps_over steps lines) (mark_to_migrate p)
steps_more steps [] p = refl
steps_more steps (l ∷ ls) p = steps_more (steps_after steps (mark_to_migrate l)) ls p

pub lines_more : (steps : ℕ) (lines more : List Piece) → lines_migrated steps (lines ++ more) ≡ lines_migrated steps lines ++ lines_migrated (steps_over steps lines) more
lines_more steps [] more = refl
lines_more steps (l ∷ ls) more =
    let one = line_migrated steps (mark_to_migrate l) (text_in l) in
    let next = steps_after steps (mark_to_migrate l) in
    ap (λ t. one ++ t) (lines_more next ls more) ∙ sym (append_assoc one (lines_migrated next ls) (lines_migrated (steps_over next ls) more))

marked_more : (lines : List Piece) (p : Piece) → AreMarked lines → is_some (mark_to_migrate p) ≡ true → AreMarked (lines ++ p ∷ [])
marked_more [] p a e = (e, tt)
marked_more (l ∷ ls) p a e = (a.0, marked_more ls p a.1 e)

migrated_more : (settings : Settings) (lines : List Piece) (p : Piece) → script_with_header settings (lines ++ p ∷ []) ≡ script_with_header settings lines ++ line_migrated (steps_over 1 lines) (mark_to_migrate p) (text_in p)
migrated_more settings lines p =
    let one = line_migrated (steps_over 1 lines) (mark_to_migrate p) (text_in p) in
    ap (λ t. migrated_beginning settings ++ t) (lines_more 1 lines (p ∷ []) ∙ ap (λ t. lines_migrated 1 lines ++ t) (append-nil one))
    ∙ sym (append_assoc (migrated_beginning settings) (lines_migrated 1 lines) one)

begun_text : (settings : Settings) (lines : List Piece) (last : Option ℕ) (text : List ℕ) → PutFor settings lines last text → text ++ unput_beginning last settings ≡ script_with_header settings lines
begun_text settings [] last text p =
    ap (λ t. t ++ unput_beginning last settings) p.1 ∙ ap (λ (o : Option ℕ). unput_beginning o settings) p.0 ∙ sym (append-nil (migrated_beginning settings))
begun_text settings (l ∷ ls) last text p = ap (λ (o : Option ℕ). text ++ unput_beginning o settings) p.0.2 ∙ append-nil text ∙ p.1

begun_count : (settings : Settings) (lines : List Piece) (last : Option ℕ) (text : List ℕ) → PutFor settings lines last text → (count : ℕ) × (steps_over 1 lines ≡ suc count) × (step_number_by last ≡ step_number count)
begun_count settings [] last text p = (0, refl, ap step_number_by p.0)
begun_count settings (l ∷ ls) last text p = (p.0.0, p.0.1, ap step_number_by p.0.2)

put_more : (settings : Settings) (lines : List Piece) (p : Piece) (last : Option ℕ) (text : List ℕ) → (count : ℕ) → steps_over 1 (lines ++ p ∷ []) ≡ suc count → last ≡ Some (step_number count) → text ≡ script_with_header settings (lines ++ p ∷ [])
    → PutFor settings (lines ++ p ∷ []) last text
put_more settings [] p last text count s l t = ((count, s, l), t)
put_more settings (x ∷ xs) p last text count s l t = ((count, s, l), t)

module _ (s0 s : Migration) (lines : List Piece) (prefix : List ℕ) (m : Migrates s0 lines s prefix) where
  pub count_is : (count : ℕ) × (steps_over 1 lines ≡ suc count) × (step_number_by s.last ≡ step_number count)
  count_is = begun_count s0.settings lines s.last prefix m.put

  text_is : prefix ++ unput_beginning s.last s.settings ≡ script_with_header s0.settings lines
  text_is = ap (λ (o : Settings). prefix ++ unput_beginning s.last o) m.settings ∙ begun_text s0.settings lines s.last prefix m.put

  -- a line with a mark
  pub line_put : (p : Piece) (new : Migration) (count : ℕ) (more : List ℕ) → new.settings ≡ s.settings → is_some (mark_to_migrate p) ≡ true → line_migrated (steps_over 1 lines) (mark_to_migrate p) (text_in p) ≡ more
      → steps_after (steps_over 1 lines) (mark_to_migrate p) ≡ suc count → new.last ≡ Some (step_number count) → Migrates s0 (lines ++ p ∷ []) new (prefix ++ (unput_beginning s.last s.settings ++ more))
  line_put p new count more e is t steps last = record {
    settings = e ∙ m.settings;
    marked = marked_more lines p m.marked is;
    put = put_more s0.settings lines p new.last (prefix ++ (unput_beginning s.last s.settings ++ more)) count (steps_more 1 lines p ∙ steps) last
        (sym (append_assoc prefix (unput_beginning s.last s.settings) more) ∙ ap (λ x. x ++ more) text_is ∙ ap (λ x. script_with_header s0.settings lines ++ x) (sym t) ∙ sym (migrated_more s0.settings lines p));
  }

  -- a line without one
  pub unmarked_put : (p : Piece) (number : ℕ) → mark_to_migrate p ≡ None → number ≡ length lines + 1
      → IsMigrationEnd (lines ++ p ∷ []) (endings.NoMark number) × (prefix ++ unput_beginning s.last s.settings ≡ script_with_header s0.settings (lines ++ p ∷ []))
  unmarked_put p number none n = (
    record { before = lines; line = p; lines_are = refl; marked = m.marked; no_mark = none; number_is = n },
    text_is ∙ sym (migrated_more s0.settings lines p ∙ ap (λ (x : Option Mark). script_with_header s0.settings lines ++ line_migrated (steps_over 1 lines) x (text_in p)) none ∙ append-nil (script_with_header s0.settings lines)),
  )

  -- no more lines
  pub finished_put : (ending : Ending) → (IsOfLine ending → ⊥) → IsMigrationEnd lines ending × (prefix ++ unput_beginning s.last s.settings ≡ script_with_header s0.settings lines)
  finished_put ending i = (reason ending i, text_is) where
    reason : (e : Ending) → (IsOfLine e → ⊥) → IsMigrationEnd lines e
    reason (endings.NoMark n) i = absurd (i tt)
    reason (endings.OutOfStep n) i = absurd (i tt)
    reason (endings.MayNotCome n) i = absurd (i tt)
    reason (endings.Differs n) i = absurd (i tt)
    reason (endings.Unlawful n) i = absurd (i tt)
    reason e i = m.marked

pub sound_begun : (old new : Migration) (text text' : Text) (number : ℕ) → IsSoundMigration old → ScriptIsBegun old text number new text' → number < 10 ^ 18 → IsSoundMigration new
sound_begun old new text text' number i b l = record {
  proper = subst (λ (o : Settings). IsProper o) (sym b.settings) i.proper;
  number = subst IsNumber (sym b.last) l;
}
