use Rattle.std.proofs.Common.{Ok, Err, OnErr, ◌≡◌, ◌∙◌, ◌∷◌, ◌++◌, [], List, ℕ, suc, Option, Some, None, is_some, refl, sym, ap, subst}
use Rattle.line_io.specs.Lines.{Whole}
use Rattle.line_io.specs.Out.{Text, with}
use Rattle.line_io.specs.Event.{event_of}
use Rattle.line_io.proofs.Puts.{put_again}
use Rattle.script_lines.specs.Marks.{Mark, Happens, ToIface, ToEngine, mark_spelled, mark_if_read}
use Rattle.script_lines.specs.StepLine.{step_number_line, step_number}
use Rattle.replay_commands_without_core.specs.declared.migration.Migration.{Migration}
use Rattle.replay_commands_without_core.specs.Begun.{unput_beginning}
use Rattle.replay_commands_without_core.specs.Migration.{line_migrated, migrated_line_text, steps_after, steps_over}
use Rattle.replay_commands_without_core.proofs.Lines.{count_is, line_put, sound_begun, unmarked_put}
use Rattle.replay_commands_without_core.proofs.migration.MigrationLineFilter.line.Goals as goal

pub returns-in-Ok-Event-clause-puts : goal.returns-in-Ok-Event-clause-puts
returns-in-Ok-Event-clause-puts c =
    let s = c.args.self.now in
    let b = c.begin-last.ensures.begins in
    let line = c.args.line.now in
    let next = c.next_number-next.result in
    let is : mark_spelled line ≡ Some (Happens (event_of c.in-Ok-Event.field-0-0)) = sym c.read_mark.ensures.exact ∙ ap mark_if_read (c.in-Ok-Event.is ∙ ap (λ x. Ok x) c.in-Ok-Event.field-0-is) in
    record {
      more = unput_beginning s.last s.settings ++ (migrated_line_text (step_number_line next) ++ migrated_line_text line);
      put = c.put_line.ensures ∙ ap (λ (t : Text). with t (migrated_line_text line)) (c.put_number.ensures.put ∙ ap (λ (t : Text). with t (migrated_line_text (step_number_line next))) b.put)
          ∙ put_again (with c.args.text.now (unput_beginning s.last s.settings)) (migrated_line_text (step_number_line next)) (migrated_line_text line)
          ∙ put_again c.args.text.now (unput_beginning s.last s.settings) (migrated_line_text (step_number_line next) ++ migrated_line_text line);
      goes = λ s0 lines prefix m n.
          let k = count_is s0 s lines prefix m in
          let number = c.next_number-next.ensures.next k.0 (b.number_is ∙ k.2) in
          line_put s0 s lines prefix m (Whole line) (record { settings = c.begin-last.new.self.settings; last = Some next }) (suc k.0) (migrated_line_text (step_number_line next) ++ migrated_line_text line)
          b.settings
          (ap (λ (x : Option Mark). is_some x) is)
          (ap (λ (x : Option Mark). line_migrated (steps_over 1 lines) x (migrated_line_text line)) is ∙ ap (λ j. migrated_line_text (step_number_line (step_number j)) ++ migrated_line_text line) k.1 ∙ ap (λ j. migrated_line_text (step_number_line j) ++ migrated_line_text line) (sym number))
          (ap (λ (x : Option Mark). steps_after (steps_over 1 lines) x) is ∙ ap suc k.1)
          (ap (λ j. Some j) number);
    }

pub returns-in-Err-clause-puts : goal.returns-in-Err-clause-puts
returns-in-Err-clause-puts c =
    let s = c.args.self.now in
    record {
      more = unput_beginning s.last s.settings;
      put = c.begin-last.ensures.begins.put;
      goes = λ s0 lines prefix m n.
          unmarked_put s0 s lines prefix m (Whole c.args.line.now) c.args.number (sym c.read_mark.ensures.exact ∙ ap mark_if_read c.in-Err.is) n;
    }

pub returns-in-Ok-ToIface : goal.returns-in-Ok-ToIface
returns-in-Ok-ToIface c =
    let s = c.args.self.now in
    let b = c.begin-last.ensures.begins in
    let line = c.args.line.now in
    let put = c.put_line-in-Ok-ToIface.ensures in
    let is : mark_spelled line ≡ Some (ToIface c.in-Ok-ToIface.field-0-0.now) = sym c.read_mark.ensures.exact ∙ ap mark_if_read (c.in-Ok-ToIface.is ∙ ap (λ x. Ok x) c.in-Ok-ToIface.field-0-is) in
    record {
      may = λ _. sound_begun s c.begin-last.new.self c.args.text.now c.begin-last.new.text c.begin-last.result c.requires.may b c.begin-last.ensures.below;
      of_line = tt;
      puts = record {
        more = unput_beginning s.last s.settings ++ migrated_line_text line;
        put = put ∙ ap (λ (t : Text). with t (migrated_line_text line)) b.put ∙ put_again c.args.text.now (unput_beginning s.last s.settings) (migrated_line_text line);
        goes = λ s0 lines prefix m n.
            let k = count_is s0 s lines prefix m in
            line_put s0 s lines prefix m (Whole line) c.begin-last.new.self k.0 (migrated_line_text line) b.settings
            (ap (λ (x : Option Mark). is_some x) is)
            (ap (λ (x : Option Mark). line_migrated (steps_over 1 lines) x (migrated_line_text line)) is)
            (ap (λ (x : Option Mark). steps_after (steps_over 1 lines) x) is ∙ k.1)
            (b.last ∙ ap (λ j. Some j) (b.number_is ∙ k.2));
      };
    }

pub returns-in-Ok-ToEngine : goal.returns-in-Ok-ToEngine
returns-in-Ok-ToEngine c =
    let s = c.args.self.now in
    let b = c.begin-last.ensures.begins in
    let line = c.args.line.now in
    let put = c.put_line-in-Ok-ToEngine.ensures in
    let is : mark_spelled line ≡ Some (ToEngine c.in-Ok-ToEngine.field-0-0.now) = sym c.read_mark.ensures.exact ∙ ap mark_if_read (c.in-Ok-ToEngine.is ∙ ap (λ x. Ok x) c.in-Ok-ToEngine.field-0-is) in
    record {
      may = λ _. sound_begun s c.begin-last.new.self c.args.text.now c.begin-last.new.text c.begin-last.result c.requires.may b c.begin-last.ensures.below;
      of_line = tt;
      puts = record {
        more = unput_beginning s.last s.settings ++ migrated_line_text line;
        put = put ∙ ap (λ (t : Text). with t (migrated_line_text line)) b.put ∙ put_again c.args.text.now (unput_beginning s.last s.settings) (migrated_line_text line);
        goes = λ s0 lines prefix m n.
            let k = count_is s0 s lines prefix m in
            line_put s0 s lines prefix m (Whole line) c.begin-last.new.self k.0 (migrated_line_text line) b.settings
            (ap (λ (x : Option Mark). is_some x) is)
            (ap (λ (x : Option Mark). line_migrated (steps_over 1 lines) x (migrated_line_text line)) is)
            (ap (λ (x : Option Mark). steps_after (steps_over 1 lines) x) is ∙ k.1)
            (b.last ∙ ap (λ j. Some j) (b.number_is ∙ k.2));
      };
    }
