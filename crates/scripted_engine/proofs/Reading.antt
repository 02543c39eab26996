-- The bytes that reads give.
use Rattle.std.proofs.Common.{take-take, Vec, Global, Result, Ok, Err, MatchResult, ◌≤◌, length, ◌≡◌, ℕ, List, [], ◌++◌, take, ap, sym, ◌∙◌, subst, append-nil}
use Rattle.std.specs.Io.KnownBytes.{Appends, Consumes, Keeps}
use Rattle.std.proofs.KnownBytes.{Appends-trans, Consumes-trans, Appends-nil, Consumes-nil, Appends-kept, Consumes-kept}
use Rattle.scripted_engine.specs.Ends.{ScriptIsRead, NoScript}
use Rattle.line_io.specs.Lines.{SourceGave}
use Rattle.line_io.specs.Source.{Supplied}
use Rattle.scripted_engine.specs.declared.ending.ScriptedEnding.{ScriptedEnding}
use Rattle.scripted_engine.specs.declared.ending.ScriptedEnding.TheVariants.{NoMemory}
use Rattle.std.specs.Result.{IsErrAnd}
use Rattle.std.proofs.lemmas.List.{take-append-le}

pub gave_none : (a : Supplied) (bs : List ℕ) → bs ≡ [] → SourceGave a a bs
gave_none a bs e = record {
  given = subst (λ (l : List ℕ). Appends a.given a.given l) (sym e) (Appends-nil a.given);
  left = subst (λ (l : List ℕ). Consumes a.left a.left l) (sym e) (Consumes-nil a.left);
}

pub gave_taken : (a b c : Supplied) (bs cs : List ℕ) → SourceGave a b bs → Appends b.given c.given cs → Consumes b.left c.left cs → SourceGave a c (bs ++ cs)
gave_taken a b c bs cs g h i = record {
  given = Appends-trans a.given b.given c.given bs cs g.given h;
  left = Consumes-trans a.left b.left c.left bs cs g.left i;
}

pub gave_kept : (a b c : Supplied) (bs : List ℕ) → SourceGave a b bs → Keeps b.given c.given → Keeps b.left c.left → SourceGave a c bs
gave_kept a b c bs g h i = record {
  given = Appends-kept a.given b.given c.given bs g.given h;
  left = Consumes-kept a.left b.left c.left bs g.left i;
}

pub none_taken : (bs buf : List ℕ) (n : ℕ) → n ≡ 0 → bs ≡ bs ++ take n buf
none_taken bs buf n e = sym (append-nil bs) ∙ ap (λ k. bs ++ take k buf) (sym e)

-- the first bytes of a buffer that was written at its front
pub prefix_taken : (n m : ℕ) (buf rest : List ℕ) → n ≤ length buf → n ≤ m → take n (take m (buf ++ rest)) ≡ take n buf
prefix_taken n m buf rest h i = take-take n m (buf ++ rest) i ∙ take-append-le n buf rest h

-- no memory came
pub no_memory : (r : Result (Vec ℕ Global) ScriptedEnding) (file file' : Supplied) (script : List ℕ) → IsErrAnd r (λ e. e ≡ NoMemory) → length script ≤ 16777216
    → MatchResult r (λ read. (read.items ≡ script) × ScriptIsRead file' script) (NoScript file file' script)
no_memory (Ok v) file file' script h l = absurd h
no_memory (Err e) file file' script h l = subst (λ (x : ScriptedEnding). NoScript file file' script x) (sym h) l
