-- Lines that a line filter takes.
use Rattle.std.proofs.Common.{◌≡◌, inl, inr, ℕ, ◌+◌, ◌<◌, List, [], ◌∷◌, ◌++◌, length, take, true, false, Option, Some, None, IfSome, Result, OnOk, OnErr, Ok, Err, refl, sym, ap, subst, ◌∙◌, arith, append_assoc, append-nil, length-append}
use Rattle.std.proofs.Math.Seq.{take-append-add}
use Rattle.std.specs.Prelude.{⊤}
use Rattle.std.proofs.KnownBytes.{Appends-nil, Appends-trans}
use Rattle.std.specs.Io.KnownBytes.{Appends}
use Rattle.std.specs.Result.{is_err}
use Rattle.line_io.specs.Causes.{Rose}
use Rattle.line_io.specs.Lines.{Piece}
use Rattle.line_io.specs.Out.{Text, with}
use Rattle.line_io.specs.Source.{Received}
use Rattle.line_io.specs.LineConsumers.{ConsumerThen}
use Rattle.replay_command_base.specs.declared.ending.Ending.{Ending}
use Rattle.replay_command_base.specs.declared.ending.Ending.TheVariants as endings
use Rattle.replay_command_base.specs.Putting.{Putting, Puts, FilterCloses, IsOfLine}
use Rattle.replay_command_base.specs.Filtered.{IsText}
use Rattle.replay_command_base.specs.Writing.{HasReason, Moved, Cut, FilterTook, Said, FilterBroke, FilterAfterLine, FilterHalted, FilterFinished, FilterLeft, FilterMayTake, did_write_fail, filter_meaning}

pub on_err : {T E : Type 0} (r : Result T E) (P : Type 0) → OnErr r P → is_err r ≡ true → P
on_err (Ok v) P h e = cc
on_err (Err x) P h e = h

pub on_ok : {T E : Type 0} (r : Result T E) (P : Type 0) → OnOk r P → is_err r ≡ false → P
on_ok (Ok v) P h e = h
on_ok (Err x) P h e = cc

rose_from : (a b c : ℕ) → b ≡ a → Rose b c → Rose a c
rose_from a b c e r = subst (λ x. Rose x c) e r

some_behind : (a b : List ℕ) → 0 < length b → 0 < length (a ++ b)
some_behind a b l = omega (arith, length-append a b, l)

-- where nothing of it was written
pub unmoved : (held : Text) (output : Received) → Moved held held output output
unmoved held output = record { prefix = []; appended = Appends-nil output.taken; rest = refl; room = refl; no_failure = refl }

-- a piece that is put after what is held
put_behind : (written text more : List ℕ) (held held' : Text) → held' ≡ with held more → written ++ held.text ≡ text → written ++ held'.text ≡ text ++ more
put_behind written text more held held' e all = ap (λ (x : Text). written ++ x.text) e ∙ sym (append_assoc written held.text more) ∙ ap (λ l. l ++ more) all

module _ {S : Type 0} (means : Putting S) where
  -- a line filter before its first line
  pub stood_first : (s : S) (held : Text) (output : Received) → means.put s [] s [] → FilterMayTake means s held → held.text ≡ [] → FilterTook means s [] s held output output
  stood_first s held output p m e = record { text = []; put = p; may = m; written = []; appended = Appends-nil output.taken; all = e; no_failure = refl }

  pub stood_moved : (s0 : S) (lines : List Piece) (s : S) (held held' : Text) (before mid after : Received) → FilterTook means s0 lines s held before mid → Moved held held' mid after → FilterTook means s0 lines s held' before after
  stood_moved s0 lines s held held' before mid after t m = record {
    text = t.text;
    put = t.put;
    may = (t.may.0, m.room ∙ t.may.1);
    written = t.written ++ m.prefix;
    appended = Appends-trans before.taken mid.taken after.taken t.written m.prefix t.appended m.appended;
    all = append_assoc t.written m.prefix held'.text ∙ ap (λ l. t.written ++ l) m.rest ∙ t.all;
    no_failure = m.no_failure ∙ t.no_failure;
  }

  -- a prefix of the text was written
  broke_text : (s0 : S) (Goes : Type 0) (Why : Ending → Type 0) (lines more : List Piece) (text held written : List ℕ) (before mid after : Received) (i : IsText means s0 lines text) → HasReason Goes (λ e. Why e × (more ≡ [])) i
      → Appends before.taken mid.taken written → written ++ held ≡ text → mid.faults ≡ before.faults → Cut held mid after → FilterBroke means s0 Goes Why (lines ++ more) before after
  broke_text s0 Goes Why lines more text held written before mid after i w a e f c = record {
    lines = lines;
    more = more;
    first = refl;
    text = text;
    is_text = i;
    reason = w;
    some = subst (λ (l : List ℕ). 0 < length l) e (some_behind written held c.some);
    prefix = length written + c.part.0;
    appended = subst (Appends before.taken after.taken) (sym (take-append-add written held c.part.0) ∙ ap (take (length written + c.part.0)) e)
        (Appends-trans before.taken mid.taken after.taken written (take c.part.0 held) a c.part.1);
    failure = rose_from before.faults mid.faults after.faults f c.failure;
  }

  broke_all : (s0 : S) (Goes : Type 0) (Why : Ending → Type 0) (lines : List Piece) (text held written : List ℕ) (before mid after : Received) (i : IsText means s0 lines text) → HasReason Goes (λ e. Why e × (◌≡◌ {A = List Piece} [] [])) i
      → Appends before.taken mid.taken written → written ++ held ≡ text → mid.faults ≡ before.faults → Cut held mid after → FilterBroke means s0 Goes Why lines before after
  broke_all s0 Goes Why lines text held written before mid after i w a e f c =
      subst (λ (ls : List Piece). FilterBroke means s0 Goes Why ls before after) (append-nil lines) (broke_text s0 Goes Why lines [] text held written before mid after i w a e f c)

  pub stood_cut : (s0 : S) (Why : Ending → Type 0) (lines more : List Piece) (s : S) (held : Text) (before mid after : Received) → FilterTook means s0 lines s held before mid → Cut held.text mid after
      → FilterBroke means s0 ⊤ Why (lines ++ more) before after
  stood_cut s0 Why lines more s held before mid after t c = broke_text s0 ⊤ Why lines more t.text held.text t.written before mid after (inl (s, t.put)) tt t.appended t.all t.no_failure c

  pub stood_cut_all : (s0 : S) (Why : Ending → Type 0) (lines : List Piece) (s : S) (held : Text) (before mid after : Received) → FilterTook means s0 lines s held before mid → Cut held.text mid after
      → FilterBroke means s0 ⊤ Why lines before after
  stood_cut_all s0 Why lines s held before mid after t c = broke_all s0 ⊤ Why lines t.text held.text t.written before mid after (inl (s, t.put)) tt t.appended t.all t.no_failure c

  -- before that was put which comes last
  pub stood_cut_early : (s0 : S) (Why : Ending → Type 0) (lines : List Piece) (s : S) (held : Text) (before mid after : Received) → FilterTook means s0 lines s held before mid → Cut held.text mid after
      → FilterBroke means s0 (0 < length held.text) Why lines before after
  stood_cut_early s0 Why lines s held before mid after t c = broke_all s0 (0 < length held.text) Why lines t.text held.text t.written before mid after (inl (s, t.put)) c.some t.appended t.all t.no_failure c

  -- nothing that comes last was written in part
  pub said_cut : (s0 : S) (lines : List Piece) (ending : Ending) (held : List ℕ) (before mid after : Received) → Said means s0 lines ending held before mid → Cut held mid after
      → FilterBroke means s0 ⊥ (λ e. e ≡ ending) lines before after
  said_cut s0 lines ending held before mid after t c = broke_all s0 ⊥ (λ e. e ≡ ending) lines t.text held t.written before mid after (inr (ending, t.says)) (refl, refl) t.appended t.all t.no_failure c

  -- for a reason that is also such a one
  reason_why : (s0 : S) (Goes Goes' : Type 0) (Why Why' : Ending → Type 0) (more lines : List Piece) (text : List ℕ) → (Goes → Goes') → ((e : Ending) → Why e → Why' e) → (i : IsText means s0 lines text)
      → HasReason Goes (λ e. Why e × (more ≡ [])) i → HasReason Goes' (λ e. Why' e × (more ≡ [])) i
  reason_why s0 Goes Goes' Why Why' more lines text k f (inl p) w = k w
  reason_why s0 Goes Goes' Why Why' more lines text k f (inr p) w = (f p.0 w.0, w.1)

  pub broke_why : (s0 : S) (Goes Goes' : Type 0) (Why Why' : Ending → Type 0) (lines : List Piece) (before after : Received) → (Goes → Goes') → ((e : Ending) → Why e → Why' e) → FilterBroke means s0 Goes Why lines before after
      → FilterBroke means s0 Goes' Why' lines before after
  broke_why s0 Goes Goes' Why Why' lines before after k f b = record {
    lines = b.lines;
    more = b.more;
    first = b.first;
    text = b.text;
    is_text = b.is_text;
    reason = reason_why s0 Goes Goes' Why Why' b.more b.lines b.text k f b.is_text b.reason;
    some = b.some;
    prefix = b.prefix;
    appended = b.appended;
    failure = b.failure;
  }

  -- all that was put was written, or a part of it: nothing was left to be put
  pub finished_early : (s0 : S) (lines : List Piece) (Early : Type 0) (ending answer : Ending) (before after : Received) → FilterFinished means s0 lines ⊥ ending answer before after → FilterFinished means s0 lines Early ending answer before after
  finished_early s0 lines Early ending answer before after (inl d) = inl d
  finished_early s0 lines Early ending answer before after (inr b) = inr (b.0, broke_why s0 ⊥ Early (λ e. e ≡ ending) (λ e. e ≡ ending) lines before after (λ x. absurd x) (λ e w. w) b.1)

  -- all that was held was written
  pub said_moved : (s0 : S) (lines : List Piece) (ending : Ending) (held held' : Text) (before mid after : Received) → Said means s0 lines ending held.text before mid → Moved held held' mid after → held'.text ≡ []
      → Said means s0 lines ending [] before after
  said_moved s0 lines ending held held' before mid after t m e =
      let prefix_is = sym (append-nil m.prefix) ∙ ap (λ l. m.prefix ++ l) (sym e) ∙ m.rest in
      record {
        text = t.text;
        says = t.says;
        written = t.written ++ m.prefix;
        appended = Appends-trans before.taken mid.taken after.taken t.written m.prefix t.appended m.appended;
        all = append-nil (t.written ++ m.prefix) ∙ ap (λ l. t.written ++ l) prefix_is ∙ t.all;
        no_failure = m.no_failure ∙ t.no_failure;
      }

  -- the text that is put last
  pub said_closed : (s0 : S) (lines : List Piece) (ending : Ending) (s : S) (held held' : Text) (before after : Received) → FilterTook means s0 lines s held before after → FilterCloses means ending s held held'
      → Said means s0 lines ending held'.text before after
  said_closed s0 lines ending s held held' before after t c = record {
    text = t.text ++ c.more;
    says = c.says s0 lines t.text t.put;
    written = t.written;
    appended = t.appended;
    all = put_behind t.written t.text c.more held held' c.put t.all;
    no_failure = t.no_failure;
  }

  -- the text that is put for a line
  pub line_put : (s0 : S) (lines : List Piece) (piece : Piece) (number : ℕ) (result : Option Ending) (s s' : S) (held held' : Text) (before after : Received) → FilterTook means s0 lines s held before after
      → number ≡ length lines + 1 → (result ≡ None → means.may s') → IfSome result (λ ending. IsOfLine ending) → Puts means number piece result s held s' held'
      → FilterAfterLine means s0 (lines ++ piece ∷ []) result s' held' before after
  line_put s0 lines piece number None s s' held held' before after t n may of p = record {
    text = t.text ++ p.more;
    put = p.goes s0 lines t.text t.put n;
    may = (may refl, ap (λ (x : Text). x.room) p.put ∙ t.may.1);
    written = t.written;
    appended = t.appended;
    all = put_behind t.written t.text p.more held held' p.put t.all;
    no_failure = t.no_failure;
  }
  line_put s0 lines piece number (Some ending) s s' held held' before after t n may of p = inr (
    of,
    record {
      text = t.text ++ p.more;
      says = p.goes s0 lines t.text t.put n;
      written = t.written;
      appended = t.appended;
      all = put_behind t.written t.text p.more held held' p.put t.all;
      no_failure = t.no_failure;
    },
  )

  -- as the driver asks for it
  pub then_by : {W O : Type 0} (line_filter : W → S) (text : W → Text) (see : O → Received) (w0 : W) (o0 : O) (pieces : List Piece) (result : Option Ending) (w : W) (o : O)
      → FilterAfterLine means (line_filter w0) pieces result (line_filter w) (text w) (see o0) (see o) → ConsumerThen (filter_meaning line_filter text means see) w0 o0 pieces result w o
  then_by line_filter text see w0 o0 pieces None w o h = h
  then_by line_filter text see w0 o0 pieces (Some ending) w o h = h

  cut_is : (e : Ending) → did_write_fail e ≡ true → IsOfLine e → ⊥
  cut_is (endings.NoMark n) h i = cc
  cut_is (endings.OutOfStep n) h i = cc
  cut_is (endings.MayNotCome n) h i = cc
  cut_is (endings.Differs n) h i = cc
  cut_is (endings.Unlawful n) h i = cc
  cut_is e h i = i

  pub left_cut : (s0 : S) (lines : List Piece) (ending : Ending) (held : List ℕ) (before after : Received) → did_write_fail ending ≡ true → FilterHalted means s0 ending lines held before after → FilterLeft means s0 lines ending ending before after
  left_cut s0 lines ending held before after c (inl b) = inr b
  left_cut s0 lines ending held before after c (inr p) = absurd (cut_is ending c p.0)

  left_by : (s0 : S) (lines : List Piece) (ending answer : Ending) (before later : Received) → IsOfLine ending → FilterFinished means s0 lines ⊥ ending answer before later → FilterLeft means s0 lines ending answer before later
  left_by s0 lines ending answer before later i (inl d) = inl (d.0, i, d.1)
  left_by s0 lines ending answer before later i (inr b) = inr (b.0, broke_why s0 ⊥ ⊤ (λ e. e ≡ ending) IsOfLine lines before later (λ x. tt) (λ e same. subst IsOfLine (sym same) i) b.1)

  pub left_written : (s0 : S) (lines : List Piece) (ending answer : Ending) (held : List ℕ) (before after later : Received) → did_write_fail ending ≡ false → FilterHalted means s0 ending lines held before after
      → (Said means s0 lines ending held before after → FilterFinished means s0 lines ⊥ ending answer before later) → FilterLeft means s0 lines ending answer before later
  left_written s0 lines ending answer held before after later c (inl b) f = let x : did_write_fail ending ≡ true = ap did_write_fail b.0 in let z = sym x ∙ c in cc
  left_written s0 lines ending answer held before after later c (inr p) f = left_by s0 lines ending answer before later p.0 (f p.1)
