-- The answers of a script, line by line.
use Rattle.std.proofs.Common.{◌≡◌, ℕ, ◌≤◌, List, [], ◌∷◌, ◌++◌, take, drop, Bool, true, false, ◌||◌, cond, Result, Ok, Err, OnOk, OnErr, refl, ap, sym, subst, ◌∙◌, append_assoc, append-nil, arith, take-append-drop}
use Rattle.std.specs.Result.{is_err}
use Rattle.std.specs.Io.KnownBytes.{Appends}
use Rattle.std.proofs.KnownBytes.{Appends-trans, Appends-nil}
use mathlib.Core.Bool.{or-false}
use Rattle.line_io.specs.Causes.{Rose}
use Rattle.line_io.specs.Lines.{Piece, Whole, TooLong, items}
use Rattle.line_io.specs.Source.{TakesPrefix}
use Rattle.line_io.specs.Taken.{Place, Taken}
use Rattle.line_io.specs.Source.{Supplied}
use Rattle.line_io.specs.declared.consumer.LinesEnd.{LinesEnd}
use Rattle.line_io.specs.declared.consumer.LinesEnd.TheVariants as ends
use Rattle.scripted_engine.specs.Blocks.{Block}
use Rattle.scripted_engine.specs.Queues.{ScriptedAnswers}
use Rattle.scripted_engine.specs.Answers.{ScriptAfterLines, GivesAnswer}
use Rattle.protocol_tokens.specs.Quit.{is_quit}
use Rattle.scripted_engine.specs.Ends.{until_quit, has_quit_line, replies_after, scripted_replies, Answered, scripted_streams}
use Rattle.line_io.specs.Source.{Received}
use Rattle.scripted_engine.specs.Heard.{LinesAnswered, ScriptedHalted, answers_of, ending_of}
use Rattle.scripted_engine.proofs.Replies.{has_append, until_append, replies_append, replies_last, none_behind}
use Rattle.scripted_engine.specs.declared.answering.Stop.{Stop}
use Rattle.scripted_engine.specs.declared.answering.Stop.TheVariants as stops

pub rose_later : (a b c : ℕ) → a ≤ b → Rose b c → Rose a c
rose_later a b c h r = omega arith

pub on_ok : {T E : Type 0} (r : Result T E) (P : Type 0) → OnOk r P → is_err r ≡ false → P
on_ok (Ok v) P h e = h
on_ok (Err x) P h e = cc

pub on_err : {T E : Type 0} (r : Result T E) (P : Type 0) → OnErr r P → is_err r ≡ true → P
on_err (Ok v) P h e = cc
on_err (Err x) P h e = h

pub heard_first : {O : Type 0} (see : O → Received) (turns : ScriptedAnswers) (o : O) → (answers_of see).took turns o [] turns o
heard_first {O} see turns o = λ blocks stands. record {
  replied = [];
  took = Appends-nil (see o).taken;
  writes = omega arith;
  stands = stands;
  answered = refl;
  no_quit = refl;
}

pub long_passes : (ps : List Piece) → until_quit (ps ++ TooLong ∷ []) ≡ until_quit ps
long_passes [] = refl
long_passes (TooLong ∷ ps) = long_passes ps
long_passes (Whole line ∷ ps) = ap (λ l. line ∷ cond (is_quit line) [] l) (long_passes ps)

pub heard_long : (blocks : List Block) (pieces : List Piece) (turns : ScriptedAnswers) (output0 output : Received) → LinesAnswered blocks pieces turns output0 output → LinesAnswered blocks (pieces ++ TooLong ∷ []) turns output0 output
heard_long blocks pieces turns output0 output h =
    let same = long_passes pieces in
    record {
      replied = h.replied;
      took = h.took;
      writes = h.writes;
      stands = subst (λ (ls : List (List ℕ)). ScriptAfterLines turns blocks ls) (sym same) h.stands;
      answered = h.answered ∙ ap (λ ls. replies_after blocks [] ls) (sym same);
      no_quit = ap has_quit_line same ∙ h.no_quit;
    }

line_more : (ps : List Piece) (line : List ℕ) → has_quit_line (until_quit ps) ≡ false → until_quit (ps ++ Whole line ∷ []) ≡ until_quit ps ++ line ∷ []
line_more ps line e = until_append ps (Whole line ∷ []) e ∙ ap (λ l. until_quit ps ++ line ∷ l) (none_behind line)

quits : (ps : List Piece) (line : List ℕ) → has_quit_line (until_quit ps) ≡ false → has_quit_line (until_quit (ps ++ Whole line ∷ [])) ≡ is_quit line
quits ps line e = ap has_quit_line (line_more ps line e) ∙ has_append (until_quit ps) (line ∷ []) ∙ ap (λ v. v || has_quit_line (line ∷ [])) e ∙ or-false (is_quit line)

reply_line : (blocks : List Block) (turns turns' : ScriptedAnswers) (pieces : List Piece) (output0 output : Received) (line text : List ℕ) → GivesAnswer turns turns' line text → (h : LinesAnswered blocks pieces turns output0 output)
    → h.replied ++ text ≡ scripted_replies blocks (pieces ++ Whole line ∷ [])
reply_line blocks turns turns' pieces output0 output line text gives h =
    ap (λ l. l ++ text) h.answered ∙ ap (λ l. scripted_replies blocks pieces ++ l) (gives blocks (until_quit pieces) h.stands).0 ∙ sym (replies_last blocks pieces [] line h.no_quit (none_behind line))

pub heard_line : (blocks : List Block) (turns turns' : ScriptedAnswers) (pieces : List Piece) (output0 output output' : Received) (line text : List ℕ) → is_quit line ≡ false → output.faults ≤ output'.faults → Appends output.taken output'.taken text → GivesAnswer turns turns' line text
    → LinesAnswered blocks pieces turns output0 output → LinesAnswered blocks (pieces ++ Whole line ∷ []) turns' output0 output'
heard_line blocks turns turns' pieces output0 output output' line text off later wrote gives h = record {
  replied = h.replied ++ text;
  took = Appends-trans output0.taken output.taken output'.taken h.replied text h.took wrote;
  writes = omega (arith, h.writes);
  stands = subst (λ (ls : List (List ℕ)). ScriptAfterLines turns' blocks ls) (sym (line_more pieces line h.no_quit)) (gives blocks (until_quit pieces) h.stands).1;
  answered = reply_line blocks turns turns' pieces output0 output line text gives h;
  no_quit = quits pieces line h.no_quit ∙ off;
}

pub halted_quit : (blocks : List Block) (turns turns' : ScriptedAnswers) (pieces : List Piece) (output0 output output' : Received) (line text : List ℕ) → is_quit line ≡ true → Appends output.taken output'.taken text → GivesAnswer turns turns' line text
    → LinesAnswered blocks pieces turns output0 output → ScriptedHalted stops.Quit blocks (pieces ++ Whole line ∷ []) output0 output'
halted_quit blocks turns turns' pieces output0 output output' line text quit wrote gives h = record {
  replied = h.replied ++ text;
  took = Appends-trans output0.taken output.taken output'.taken h.replied text h.took wrote;
  stops = (reply_line blocks turns turns' pieces output0 output line text gives h, quits pieces line h.no_quit ∙ quit);
}

pub halted_write : (blocks : List Block) (turns turns' : ScriptedAnswers) (pieces : List Piece) (output0 output output' : Received) (line text : List ℕ) → Rose output.faults output'.faults → TakesPrefix output.taken output'.taken text → GivesAnswer turns turns' line text
    → LinesAnswered blocks pieces turns output0 output → ScriptedHalted stops.WriteFailed blocks (pieces ++ Whole line ∷ []) output0 output'
halted_write blocks turns turns' pieces output0 output output' line text rose wrote gives h = record {
  replied = h.replied ++ take wrote.0 text;
  took = Appends-trans output0.taken output.taken output'.taken h.replied (take wrote.0 text) h.took wrote.1;
  stops = (
    rose_later output0.faults output.faults output'.faults h.writes rose,
    (
      drop wrote.0 text,
      append_assoc h.replied (take wrote.0 text) (drop wrote.0 text) ∙ ap (λ l. h.replied ++ l) (take-append-drop wrote.0 text) ∙ reply_line blocks turns turns' pieces output0 output line text gives h,
    ),
  );
}

-- nothing is answered after a `quit`
until_stays : (ps qs : List Piece) → has_quit_line (until_quit ps) ≡ true → until_quit (ps ++ qs) ≡ until_quit ps
until_stays [] qs = λ e. cc
until_stays (TooLong ∷ ps) qs = until_stays ps qs
until_stays (Whole line ∷ ps) qs =
    elim (is_quit line) as (λ v. (v || has_quit_line (cond v [] (until_quit ps))) ≡ true → line ∷ cond v [] (until_quit (ps ++ qs)) ≡ line ∷ cond v [] (until_quit ps)) [
      | true ↦ λ e. refl
      | false ↦ λ e. ap (λ l. line ∷ l) (until_stays ps qs e)
    ]

more_by : (blocks : List Block) (ps qs : List Piece) (v : Bool) → has_quit_line (until_quit ps) ≡ v → (more : List ℕ) × (scripted_replies blocks (ps ++ qs) ≡ scripted_replies blocks ps ++ more)
more_by blocks ps qs true e = ([], ap (λ l. replies_after blocks [] l) (until_stays ps qs e) ∙ sym (append-nil (scripted_replies blocks ps)))
more_by blocks ps qs false e = (replies_after blocks (until_quit ps) (until_quit qs), ap (λ l. replies_after blocks [] l) (until_append ps qs e) ∙ replies_append blocks [] (until_quit ps) (until_quit qs))

replies_more : (blocks : List Block) (ps qs : List Piece) → (more : List ℕ) × (scripted_replies blocks (ps ++ qs) ≡ scripted_replies blocks ps ++ more)
replies_more blocks ps qs = more_by blocks ps qs (has_quit_line (until_quit ps)) refl

no_more : (limit : ℕ) (bytes left : List ℕ) → left ≡ [] → items limit bytes ≡ items limit (bytes ++ left)
no_more limit bytes left e = ap (items limit) (sym (append-nil bytes) ∙ ap (λ l. bytes ++ l) (sym e))

-- how the answers end
pub answered_by : {O : Type 0} (see : O → Received) (ending : LinesEnd Stop) (old new : Place ScriptedAnswers O) (blocks : List Block) (file file' : Supplied) → ScriptAfterLines old.consumer blocks []
    → Taken (answers_of see) 65536 ending old new → Answered (ending_of ending) blocks (scripted_streams file old.input (see old.output)) (scripted_streams file' new.input (see new.output))
answered_by {O} see (ends.Stopped stops.Quit) old new blocks file file' stands t =
    let h = t.ends.stopped blocks stands in
    let f = t.ends in
    record {
      heard = t.given;
      replied = h.replied;
      gave = t.gave;
      took = h.took;
      ends = record {
        ended = f.ended;
        all = λ left live. let m = f.prefix left live in h.stops.0 ∙ ap (λ ls. replies_after blocks [] ls) (sym (until_stays t.pieces m.0 h.stops.1)) ∙ ap (scripted_replies blocks) (sym m.1);
        at_end = f.at_end;
        at_quit = λ e. let m = f.prefix [] (λ _. refl) in ap (λ ps. has_quit_line (until_quit ps)) (no_more 65536 t.given [] refl ∙ m.1) ∙ ap has_quit_line (until_stays t.pieces m.0 h.stops.1) ∙ h.stops.1;
      };
    }
answered_by {O} see (ends.Stopped stops.WriteFailed) old new blocks file file' stands t =
    let h = t.ends.stopped blocks stands in
    let f = t.ends in
    record {
      heard = t.given;
      replied = h.replied;
      gave = t.gave;
      took = h.took;
      ends = (
        h.stops.0,
        record {
          ended = f.ended;
          prefix = λ left live.
              let m = f.prefix left live in
              let x = replies_more blocks t.pieces m.0 in
              (h.stops.1.0 ++ x.0, sym (append_assoc h.replied h.stops.1.0 x.0) ∙ ap (λ l. l ++ x.0) h.stops.1.1 ∙ sym x.1 ∙ ap (scripted_replies blocks) (sym m.1));
          at_end = f.at_end;
        },
      );
    }
answered_by {O} see ends.Ended old new blocks file file' stands t =
    let h = t.ends.took blocks stands in
    record {
      heard = t.given;
      replied = h.replied;
      gave = t.gave;
      took = h.took;
      ends = record {
        ended = true;
        all = λ left live. h.answered ∙ ap (scripted_replies blocks) (t.ends.all ∙ no_more 65536 t.given left (live refl));
        at_end = λ _. t.ends.over;
        at_quit = λ e. cc;
      };
    }
answered_by {O} see ends.ReadFailed old new blocks file file' stands t =
    let h = t.ends.took blocks stands in
    record {
      heard = t.given;
      replied = h.replied;
      gave = t.gave;
      took = h.took;
      ends = (t.ends.fault, record { all = h.answered ∙ ap (scripted_replies blocks) t.ends.all; no_quit = ap (λ ps. has_quit_line (until_quit ps)) (sym t.ends.all) ∙ h.no_quit });
    }
answered_by {O} see ends.Endless old new blocks file file' stands t =
    let h = t.ends.took blocks stands in
    record {
      heard = t.given;
      replied = h.replied;
      gave = t.gave;
      took = h.took;
      ends = (t.ends.many, record { all = h.answered ∙ ap (scripted_replies blocks) t.ends.all; no_quit = ap (λ ps. has_quit_line (until_quit ps)) (sym t.ends.all) ∙ h.no_quit });
    }
