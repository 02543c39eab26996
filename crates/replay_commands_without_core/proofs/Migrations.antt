-- The meaning of the status of a migration.
use Rattle.std.proofs.Common.{◌≡◌, ◌⊎◌, inl, inr, ℕ, suc, ◌+◌, ◌^◌, ◌<◌, List, [], ◌∷◌, ◌++◌, length, take, true, false, Option, None, is_some, refl, sym, ap, subst, ◌∙◌, arith, append_assoc, append-nil}
use Rattle.std.proofs.Math.Seq.{take-length}
use Rattle.std.specs.Io.KnownBytes.{Appends}
use Rattle.line_io.specs.Lines.{Piece, items}
use Rattle.line_io.specs.Runs.{whole}
use Rattle.script_lines.specs.Marks.{Mark}
use Rattle.trace_scripts.specs.Script.{script1}
use Rattle.policy_rules.specs.declared.setting_rules.settings.Settings.{Settings}
use Rattle.replay_command_base.specs.declared.ending.Ending.{Ending}
use Rattle.replay_command_base.specs.declared.ending.Ending.TheVariants as endings
use Rattle.replay_command_base.specs.Diagnostics.{command_status, command_diagnostic}
use Rattle.replay_command_base.specs.Ran.{FilterRan}
use Rattle.replay_command_base.specs.Reads.{AreRead}
use Rattle.replay_command_base.specs.Streams.{FilterStreams, AreSame}
use Rattle.replay_command_base.proofs.Readings.{first_of, all_of}
use Rattle.replay_command_base.specs.Outcomes.{LineReported, Outcome, WroteLast}
use Rattle.replay_command_base.specs.Putting.{IsOfLine}
use Rattle.replay_command_base.specs.Filtered.{FilterEndsBy, IsText, WrotePrefix, WroteAll, WroteWhole}
use Rattle.replay_commands_without_core.specs.declared.migration.Migration.{Migration}
use Rattle.replay_commands_without_core.specs.Begun.{IsMigrationEnd, Migrates, PutFor, unbegun_script, migration_meaning}
use Rattle.replay_commands_without_core.specs.Migration.{AreMarked, IsUnmarked, mark_to_migrate, script_with_header}
use Rattle.replay_commands_without_core.specs.Migrated.{AllMigrated, CompletesMigration, PrefixMigrated, Migrated, MigratesScripts, ReportsUnmarked, UnmarkedReported, WholeMigrated}
use Rattle.replay_commands_without_core.proofs.Traces.{trace_migrated}

-- THE FIRST LINE WITHOUT A MARK

no_both : (x : Option Mark) → is_some x ≡ true → x ≡ None → ⊥
no_both x s n = let z : is_some x ≡ false = ap is_some n in let y = sym s ∙ z in cc

none_among : (before : List Piece) (line : Piece) (rest : List Piece) → AreMarked (before ++ line ∷ rest) → mark_to_migrate line ≡ None → ⊥
none_among [] line rest a n = no_both (mark_to_migrate line) a.0 n
none_among (b ∷ bs) line rest a n = none_among bs line rest a.1 n

same_head : (a b : Piece) (xs ys : List Piece) → a ∷ xs ≡ b ∷ ys → (a ≡ b) × (xs ≡ ys)
same_head a b xs ys e = (cc, cc)

-- it is one line
one_first : (a b : List Piece) (p q : Piece) (xs ys : List Piece) → a ++ p ∷ xs ≡ b ++ q ∷ ys → AreMarked a → AreMarked b → mark_to_migrate p ≡ None → mark_to_migrate q ≡ None → length a ≡ length b
one_first [] [] p q xs ys e x y m n = refl
one_first [] (b ∷ bs) p q xs ys e x y m n = absurd (no_both (mark_to_migrate b) y.0 (ap mark_to_migrate (sym (same_head p b xs (bs ++ q ∷ ys) e).0) ∙ m))
one_first (a ∷ rest) [] p q xs ys e x y m n = absurd (no_both (mark_to_migrate a) x.0 (ap mark_to_migrate (same_head a q (rest ++ p ∷ xs) ys e).0 ∙ n))
one_first (a ∷ rest) (b ∷ bs) p q xs ys e x y m n = ap suc (one_first rest bs p q xs ys (same_head a b (rest ++ p ∷ xs) (bs ++ q ∷ ys) e).1 x.1 y.1 m n)

-- an input that begins with these lines does not have marks alone
not_marked : (n : ℕ) (lines more all : List Piece) → all ≡ lines ++ more → IsUnmarked n lines → AreMarked all → ⊥
not_marked n lines more all e u a =
    none_among u.before u.line more (subst AreMarked (e ∙ ap (λ (ls : List Piece). ls ++ more) u.lines_are ∙ append_assoc u.before (u.line ∷ []) more) a) u.no_mark

same_number : (n k : ℕ) (lines ls more ms all : List Piece) → all ≡ lines ++ more → all ≡ ls ++ ms → IsUnmarked n lines → IsUnmarked k ls → n ≡ k
same_number n k lines ls more ms all e f u v =
    let left = ap (λ (x : List Piece). x ++ more) u.lines_are ∙ append_assoc u.before (u.line ∷ []) more in
    let right = ap (λ (x : List Piece). x ++ ms) v.lines_are ∙ append_assoc v.before (v.line ∷ []) ms in
    u.number_is ∙ ap (λ j. j + 1) (one_first u.before v.before u.line v.line more ms (sym left ∙ sym e ∙ f ∙ right) u.marked v.marked u.no_mark v.no_mark) ∙ sym v.number_is

-- WHAT WAS PUT

put_text : (settings : Settings) (lines : List Piece) (last : Option ℕ) (text : List ℕ) → PutFor settings lines last text → 0 < length text → text ≡ script_with_header settings lines
put_text settings [] last text p some = let n = ap length p.1 in absurd (let z : ⊥ = omega (arith, n, some) in z)
put_text settings (l ∷ ls) last text p some = p.1

module _ (settings : Settings) (s0 : Migration) (same : s0.settings ≡ settings) (Unread Kept : Type 0) (start now : FilterStreams) (code : ℕ) (ran : FilterRan (λ e. FilterEndsBy migration_meaning (unbegun_script settings) (Unread × Kept) e start now) start now code) (o : Outcome migration_meaning s0 (Unread × Kept) start now code) where
  text_is : (lines : List Piece) (text : List ℕ) → text ≡ script_with_header s0.settings lines → text ≡ script_with_header settings lines
  text_is lines text e = e ∙ ap (λ (x : Settings). script_with_header x lines) same

  wrote_as : (lines : List Piece) (text : List ℕ) → text ≡ script_with_header s0.settings lines → Appends start.output.taken now.output.taken text → Appends start.output.taken now.output.taken (script_with_header settings lines)
  wrote_as lines text e a = subst (Appends start.output.taken now.output.taken) (text_is lines text e) a

  all_by : WroteAll migration_meaning s0 start now → AreSame start now → AllMigrated settings start now
  all_by w s = record { got = w.got; reads = w.reads; all_read = w.all; marked = w.says.0; written = wrote_as (items 131072 w.got) w.text w.says.1 w.written; no_failure = s }

  all_migrated : code ≡ 0 → AllMigrated settings start now
  all_migrated z = let d = o.done z in all_by d.0 d.1

  abbrev Reported : ℕ → Type 0
  Reported n = LineReported migration_meaning s0 start now n

  -- the line that is the reason is the first without a mark
  abbrev Found : Ending → Type 0
  Found e = (n : ℕ) × (e ≡ endings.NoMark n)

  no_mark_is : (lines : List Piece) (e : Ending) → IsMigrationEnd lines e → IsOfLine e → Found e
  no_mark_is lines (endings.NoMark n) r i = (n, refl)
  no_mark_is lines (endings.Differs n) r i = absurd r
  no_mark_is lines (endings.Unlawful n) r i = absurd r
  no_mark_is lines (endings.OutOfStep n) r i = absurd r
  no_mark_is lines (endings.MayNotCome n) r i = absurd r
  no_mark_is lines e r i = absurd i

  reported : (n : ℕ) → Reported n → UnmarkedReported settings start now
  reported n r =
      let k = no_mark_is r.wrote.lines r.ending r.wrote.says.0 r.of_line in
      record {
        number = k.0;
        lines = r.wrote.lines;
        read = r.wrote.read;
        unmarked = subst (IsMigrationEnd r.wrote.lines) k.1 r.wrote.says.0;
        written = wrote_as r.wrote.lines r.wrote.text r.wrote.says.1 r.wrote.written;
        announced = subst (λ (e : Ending). Appends start.diag.taken now.diag.taken (command_diagnostic e)) k.1 r.announced;
      }

  reported_code : (n : ℕ) → Reported n → n ≡ 2
  reported_code n r = let k = no_mark_is r.wrote.lines r.ending r.wrote.says.0 r.of_line in r.code_is ∙ ap command_status k.1

  no_other : code ≡ 1 → ⊥
  no_other z = let n = reported_code 1 (o.found z) in cc

  abbrev whole_by : (e : Ending) (least : ℕ) → ((lines : List Piece) → IsMigrationEnd lines e → AreMarked lines) → WroteWhole migration_meaning s0 e least start now → WholeMigrated settings start now
  whole_by e least m w = record {
    got = w.got;
    reads = w.reads;
    first = w.first;
    marked = m (whole 131072 w.got) w.says.0;
    written = wrote_as (whole 131072 w.got) w.text w.says.1 w.written;
  }

  prefix_by : WrotePrefix migration_meaning s0 start now ⊎ WroteLast migration_meaning s0 start now → PrefixMigrated settings start now
  prefix_by (inl w) = of w.is_text where
    by : w.text ≡ script_with_header settings w.lines → PrefixMigrated settings start now
    by e = record { lines = w.lines; read = w.read; prefix = w.prefix; written = subst (λ l. Appends start.output.taken now.output.taken (take w.prefix l)) e w.written }

    of : IsText migration_meaning s0 w.lines w.text → PrefixMigrated settings start now
    of (inl p) = by (text_is w.lines w.text (put_text s0.settings w.lines p.0.last w.text p.1.put w.some))
    of (inr p) = by (text_is w.lines w.text p.1.1)
  prefix_by (inr w) = record {
    lines = w.lines;
    read = w.read;
    prefix = length (script_with_header settings w.lines);
    written = subst (Appends start.output.taken now.output.taken) (text_is w.lines w.text w.says.1 ∙ sym (take-length (script_with_header settings w.lines))) w.written;
  }

  writing : (Unread × Kept) ⊎ WrotePrefix migration_meaning s0 start now ⊎ WroteLast migration_meaning s0 start now → (Unread × Kept) ⊎ PrefixMigrated settings start now
  writing (inl u) = inl u
  writing (inr p) = inr (prefix_by p)

  complete : CompletesMigration start now code
  complete x e l marked s = of (o.complete x e l s) where
    of : ((code ≡ 0) × WroteAll migration_meaning s0 start now) ⊎ LineReported migration_meaning s0 start now code ⊎ (code ≡ 3) → (code ≡ 0) ⊎ (code ≡ 3)
    of (inl p) = inl p.0
    of (inr (inl r)) = let k = reported code r in let f = first_of start.input.left k.lines x k.read.of_left e in absurd (not_marked k.number k.lines f.0 (items 131072 x) f.1 k.unmarked marked)
    of (inr (inr z)) = inr z

  announced : ReportsUnmarked start now code
  announced x number lines more e l is u s = of (o.complete x e l s) where
    of : ((code ≡ 0) × WroteAll migration_meaning s0 start now) ⊎ LineReported migration_meaning s0 start now code ⊎ (code ≡ 3) → ((code ≡ 2) × Appends start.diag.taken now.diag.taken (command_diagnostic (endings.NoMark number))) ⊎ (code ≡ 3)
    of (inl p) = absurd (not_marked number lines more (items 131072 x) is u (subst (λ (y : List ℕ). AreMarked (items 131072 y)) (sym (all_of start.input.left p.1.got x p.1.all e)) p.1.says.0))
    of (inr (inl r)) =
        let k = reported code r in
        let f = first_of start.input.left k.lines x k.read.of_left e in
        inl (reported_code code r, subst (λ j. Appends start.diag.taken now.diag.taken (command_diagnostic (endings.NoMark j))) (same_number k.number number k.lines lines f.0 more (items 131072 x) f.1 is k.unmarked u) k.announced)
    of (inr (inr z)) = inr z

  scripts : MigratesScripts settings start now code
  scripts t m e z =
      let a = all_migrated z in
      subst (Appends start.output.taken now.output.taken) (ap (λ x. script_with_header settings (items 131072 x)) (sym (all_of start.input.left a.got (script1 t) a.all_read e)) ∙ trace_migrated settings t m) a.written

  pub migrated_by : Migrated settings Unread Kept start now code
  migrated_by = record {
    ended = ran;
    all_migrated = all_migrated;
    no_other = no_other;
    unmarked = λ z. reported 2 (o.fault z);
    memory = λ z. o.memory z;
    reading_failed = λ z. let p = o.reading z in (p.0, whole_by endings.ReadingFailed 0 (λ lines r. r) p.1);
    writing_failed = λ z. let p = o.writing z in (p.0, writing p.1);
    too_long = λ z. record { whole_lines = whole_by endings.TooLong (2 ^ 32) (λ lines r. r) (o.too_long z); least = (o.too_long z).least_is };
    complete = complete;
    faults_announced = announced;
    scripts = scripts;
  }
