-- The meaning of the end of a run.
use Rattle.std.proofs.Common.{◌≡◌, inl, inr, ℕ, ◌≤◌, List, [], ◌++◌, length, Option, Some, None, IfSome, IsSome, refl, ap, sym, subst, ◌∙◌, append-nil, arith, length-append}
use Rattle.std.specs.Io.KnownBytes.{Appends, Consumes, IsAtEnd}
use Rattle.std.proofs.KnownBytes.{Appends-nil, Consumes-nil}
use Rattle.line_io.specs.Lines.{SourceGave, items}
use Rattle.scripted_engine.specs.Script.{first_bad, blocks_of}
use Rattle.scripted_engine.specs.Ends.{scripted_streams, scripted_status, ScriptIsRead, NoScript, Answered, scripted_replies, Session, CompletesScripted, AnswersInput}
use Rattle.line_io.specs.Source.{Received}
use Rattle.line_io.specs.Source.{Supplied}
use Rattle.scripted_engine.specs.declared.ending.ScriptedEnding.{ScriptedEnding}
use Rattle.scripted_engine.specs.declared.ending.ScriptedEnding.TheVariants.{Done, Usage, NoMemory, ReadFailed, WriteFailed, BadScript, TooLarge, Endless}

-- no script came
pub unread : (ending : ScriptedEnding) (file file' input : Supplied) (output : Received) (script : List ℕ) → SourceGave file file' script → NoScript file file' script ending → Session ending (scripted_streams file input output) (scripted_streams file' input output)
unread ending file file' input output script gave why = record {
  script = script;
  heard = [];
  replied = [];
  from_file = gave;
  from_input = record { given = Appends-nil input.given; left = Consumes-nil input.left };
  to_output = Appends-nil output.taken;
  ends = inl (record { why = why; none_heard = refl; none_replied = refl });
}

pub opened_none : (file input : Supplied) (output : Received) → Session NoMemory (scripted_streams file input output) (scripted_streams file input output)
opened_none file input output = unread NoMemory file file input output [] (record { given = Appends-nil file.given; left = Consumes-nil file.left }) (omega arith)

-- the lines were answered
pub answered : (ending : ScriptedEnding) (file file' input input' : Supplied) (output output' : Received) (script : List ℕ) → SourceGave file file' script → ScriptIsRead file' script → first_bad script ≡ None
    → Answered ending (blocks_of script) (scripted_streams file input output) (scripted_streams file' input' output') → Session ending (scripted_streams file input output) (scripted_streams file' input' output')
answered ending file file' input input' output output' script gave read good a = record {
  script = script;
  heard = a.heard;
  replied = a.replied;
  from_file = gave;
  from_input = a.gave;
  to_output = a.took;
  ends = inr (record { read = read; good = good; ends = a.ends });
}

-- a run that was given one word does not end by its usage
pub not_usage : (ending : ScriptedEnding) (file file' input input' : Supplied) (output output' : Received) → Session ending (scripted_streams file input output) (scripted_streams file' input' output') → scripted_status ending ≡ 2 → ⊥
not_usage Done file file' input input' output output' s e = cc
not_usage Usage file file' input input' output output' s e = elim (s.ends) [ inl h ↦ h.why | inr h ↦ h.ends ]
not_usage NoMemory file file' input input' output output' s e = cc
not_usage ReadFailed file file' input input' output output' s e = cc
not_usage WriteFailed file file' input input' output output' s e = cc
not_usage BadScript file file' input input' output output' s e = cc
not_usage TooLarge file file' input input' output output' s e = cc
not_usage Endless file file' input input' output output' s e = cc

-- bytes that were told are those that were given and those that are left
all_replied : (old new : Option (List ℕ)) (got all : List ℕ) → Consumes old new got → old ≡ Some all → (rest : List ℕ) × (new ≡ Some rest) × (all ≡ got ++ rest)
all_replied None new got all c e = cc
all_replied (Some xs) None got all c e = absurd c
all_replied (Some xs) (Some rest) got all c e = (rest, refl, cc (c, e))

over : (old new : Option (List ℕ)) (rest all : List ℕ) → old ≡ Some all → new ≡ Some rest → IfSome old (λ _. IsAtEnd new) → rest ≡ []
over None new rest all e f h = cc
over (Some xs) None rest all e f h = cc
over (Some xs) (Some ys) rest all e f h = cc (f, h)

ended_at : (new : Option (List ℕ)) (rest : List ℕ) → new ≡ Some rest → IsAtEnd new → rest ≡ []
ended_at None rest f h = cc
ended_at (Some ys) rest f h = cc (f, h)

-- a file that reported its bytes and was read to its end gave them all
whole_file : (file file' : Supplied) (script replied : List ℕ) → SourceGave file file' script → file.left ≡ Some replied → ScriptIsRead file' script → script ≡ replied
whole_file file file' script replied gave e read =
    let t = all_replied file.left file'.left script replied gave.left e in
    sym (append-nil script) ∙ ap (λ l. script ++ l) (sym (ended_at file'.left t.0 t.1 read.at_end)) ∙ sym t.2

shorter : (old new : Supplied) (got all : List ℕ) → SourceGave old new got → old.left ≡ Some all → length got ≤ length all
shorter old new got all gave e =
    let t = all_replied old.left new.left got all gave.left e in omega (arith, ap (λ (l : List ℕ). length l) t.2, length-append got t.0)

answers_done : (file file' input input' : Supplied) (output output' : Received) (s : Session Done (scripted_streams file input output) (scripted_streams file' input' output')) (script heard : List ℕ) → file.left ≡ Some script → input.left ≡ Some heard
    → Appends output.taken output'.taken (scripted_replies (blocks_of script) (items 65536 heard))
answers_done file file' input input' output output' s script heard f i =
    elim (s.ends) [
      | inl h ↦ absurd h.why
      | inr h ↦
          let t = all_replied input.left input'.left s.heard heard s.from_input.left i in
          let same = whole_file file file' s.script script s.from_file f h.read in
          let replied = h.ends.all t.0 (λ e. over input.left input'.left t.0 heard i t.1 (h.ends.at_end e)) in
          subst (λ (l : List ℕ). Appends output.taken output'.taken l) (replied ∙ ap (λ b. scripted_replies (blocks_of s.script) (items 65536 b)) (sym t.2) ∙ ap (λ b. scripted_replies (blocks_of b) (items 65536 heard)) same) s.to_output
    ]

pub answers : (ending : ScriptedEnding) (file file' input input' : Supplied) (output output' : Received) → Session ending (scripted_streams file input output) (scripted_streams file' input' output') → AnswersInput (scripted_status ending) (scripted_streams file input output) (scripted_streams file' input' output')
answers Done file file' input input' output output' s = λ script heard f i e. answers_done file file' input input' output output' s script heard f i
answers Usage file file' input input' output output' s = λ script heard f i e. cc
answers NoMemory file file' input input' output output' s = λ script heard f i e. cc
answers ReadFailed file file' input input' output output' s = λ script heard f i e. cc
answers WriteFailed file file' input input' output output' s = λ script heard f i e. cc
answers BadScript file file' input input' output output' s = λ script heard f i e. cc
answers TooLarge file file' input input' output output' s = λ script heard f i e. cc
answers Endless file file' input input' output output' s = λ script heard f i e. cc

some_none : (o : Option ℕ) → IsSome o → o ≡ None → ⊥
some_none None h e = cc h
some_none (Some x) h e = cc e

pub complete : (ending : ScriptedEnding) (file file' input input' : Supplied) (output output' : Received) → Session ending (scripted_streams file input output) (scripted_streams file' input' output') → CompletesScripted (scripted_status ending) (scripted_streams file input output) (scripted_streams file' input' output')
complete Done file file' input input' output output' s = λ script heard p. inl refl
complete NoMemory file file' input input' output output' s = λ script heard p. inr refl
complete Usage file file' input input' output output' s = λ script heard p. elim (s.ends) [ inl h ↦ absurd h.why | inr h ↦ absurd h.ends ]
complete ReadFailed file file' input input' output output' s = λ script heard p. elim (s.ends) [ inl h ↦ absurd (p.file_reads h.why.1) | inr h ↦ absurd (p.input_reads h.ends.0) ]
complete WriteFailed file file' input input' output output' s = λ script heard p. elim (s.ends) [ inl h ↦ absurd h.why | inr h ↦ absurd (p.output_writes h.ends.0) ]
complete BadScript file file' input input' output output' s = λ script heard p.
    elim (s.ends) [
      | inl h ↦ absurd (some_none (first_bad s.script) h.why.1 (ap first_bad (whole_file file file' s.script script s.from_file p.script_replied h.why.0) ∙ p.good))
      | inr h ↦ absurd h.ends
    ]
complete TooLarge file file' input input' output output' s = λ script heard p.
    let n = shorter file file' s.script script s.from_file p.script_replied in elim (s.ends) [ inl h ↦ absurd (omega (arith, h.why, p.fits)) | inr h ↦ absurd h.ends ]
complete Endless file file' input input' output output' s = λ script heard p.
    let n = shorter input input' s.heard heard s.from_input p.input_replied in elim (s.ends) [ inl h ↦ absurd h.why | inr h ↦ absurd (omega (arith, h.ends.0, p.few)) ]
