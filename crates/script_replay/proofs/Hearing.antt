-- Lines that a player takes.
use Rattle.std.proofs.Common.{◌≡◌, inl, inr, ℕ, ◌+◌, ◌<◌, List, [], ◌∷◌, ◌++◌, length, take, true, false, Option, Some, None, Result, OnOk, OnErr, Ok, Err, refl, sym, ap, subst, ◌∙◌, arith, append-nil}
use Rattle.std.proofs.Math.Seq.{take-append-add}
use Rattle.std.proofs.KnownBytes.{Appends-nil, Appends-trans}
use Rattle.std.specs.Io.KnownBytes.{Appends}
use Rattle.std.specs.Result.{is_err}
use Rattle.line_io.specs.Causes.{ErrorIsCounted, Rose}
use Rattle.line_io.specs.Lines.{Piece}
use Rattle.line_io.specs.Out.{Text, empty}
use Rattle.line_io.specs.Source.{Received, TakesPrefix}
use Rattle.line_io.specs.LineConsumers.{ConsumerThen}
use Rattle.policy_rules.specs.declared.setting_rules.settings.Settings.{Settings}
use Rattle.adapter_core.specs.Parts.{CoreParts}
use Rattle.replay_command_base.specs.declared.ending.Ending.{Ending}
use Rattle.replay_command_base.specs.declared.ending.Ending.TheVariants as endings
use Rattle.script_replay.specs.declared.player.Player.{Player}
use Rattle.script_replay.specs.declared.stage.ScriptStage.{ScriptStage}
use Rattle.script_replay.specs.declared.stage.ScriptStage.TheVariants as stages
use Rattle.script_replay.specs.Stages.{IsNumbered, is_first_stage}
use Rattle.script_replay.specs.Versions.{version_in, LineSaid, fault_said, kind_says, kind_of_script_line}
use Rattle.script_replay.specs.Playing.{HasBegun, LinePlayed, Playing, OutputIsScript, LineIsPlayed, ReplayTook}
use Rattle.script_replay.specs.Replaying.{IsFresh, player_with_text, ReplayMayGoOn, ReplayStood, ReplayBroke, ReplayHalted, ReplayAfterLine, ReplayFinished, replays}
use Rattle.script_replay.proofs.VersionLines.{version_stays}
use Rattle.script_replay.proofs.Plays.{begun_plain, on_line}
use Rattle.script_replay.proofs.Players.{not_start, started, takes_open, unstarted}

-- a session before its first line stands
pub stood_first : {O : Type 0} (see : O → Received) (player : Player) (output : O) → IsFresh player.core.settings player
    → (replays see).took player output [] player output
stood_first see player output fresh = λ o f. record {
  took = record { is_start = f.is_start; stands = f.stands; is_empty = ap (λ (t : Text). t.text) f.text; appended = Appends-nil (see output).taken };
  may = record {
    new = λ _. (fresh.stands, ap (λ (t : Text). t.text) f.text);
    numbered = subst (λ (s : ScriptStage). IsNumbered s) (sym f.is_start) tt;
    room = ap (λ (t : Text). t.room) f.text;
  };
  no_failure = refl;
}

-- lines with one more are some
pub took_more : (o : Settings) (lines : List Piece) (p : Piece) (core : CoreParts) (stage : ScriptStage) (text : List ℕ) (before after : Received)
    → Playing o (lines ++ p ∷ []) core stage text before after → ReplayTook o (lines ++ p ∷ []) core stage text before after
took_more o [] p core stage text before after x = x
took_more o (l ∷ ls) p core stage text before after x = x

-- the outcome of a line
pub came_by : (o : Settings) (lines : List Piece) (p : Piece) (answer : Option Ending) (player : Player) (before after : Received)
    → LinePlayed o (lines ++ p ∷ []) answer player.core player.stage player.text.text before after → ReplayMayGoOn player → after.faults ≡ before.faults
    → ReplayAfterLine o (lines ++ p ∷ []) answer player before after
came_by o lines p None player before after x may same = record { took = took_more o lines p player.core player.stage player.text.text before after x; may = may; no_failure = same }
came_by o lines p (Some f) player before after x may same = record { halts = inr (record { is_fault = x.0; scripted = x.1; no_failure = same }); may = may }

-- the replayed lines are a script that was written but for the rest
pub scripted_by : (o : Settings) (lines : List Piece) (core : CoreParts) (stage : ScriptStage) (text : List ℕ) (before after : Received) → Playing o lines core stage text before after → OutputIsScript o lines text before after
scripted_by o lines core stage text before after p = record { trace = p.trace; lawful = p.lawful; short = p.short; events_are = p.events_are; written = p.written; appended = p.appended; script_is = p.script_is }

-- the rest was written
pub wrote : (o : Settings) (lines : List Piece) (text : List ℕ) (before after later : Received) → OutputIsScript o lines text before after → Appends after.taken later.taken text → OutputIsScript o lines [] before later
wrote o lines text before after later s a = record {
  trace = s.trace;
  lawful = s.lawful;
  short = s.short;
  events_are = s.events_are;
  written = s.written ++ text;
  appended = Appends-trans before.taken after.taken later.taken s.written text s.appended a;
  script_is = append-nil (s.written ++ text) ∙ s.script_is;
}

rose_from : (a b c : ℕ) → b ≡ a → Rose b c → Rose a c
rose_from a b c e r = subst (λ x. Rose x c) e r

-- a prefix of the rest was written
pub broke : (o : Settings) (lines more : List Piece) (text : List ℕ) (before after later : Received) → OutputIsScript o lines text before after → TakesPrefix after.taken later.taken text
    → after.faults ≡ before.faults → Rose after.faults later.faults → ReplayBroke o (lines ++ more) before later
broke o lines more text before after later s t same rose = record {
  lines = lines;
  more = more;
  first = refl;
  trace = s.trace;
  lawful = s.lawful;
  events_are = s.events_are;
  prefix = length s.written + t.0;
  appended = subst (Appends before.taken later.taken) (sym (take-append-add s.written text t.0) ∙ ap (take (length s.written + t.0)) s.script_is)
      (Appends-trans before.taken after.taken later.taken s.written (take t.0 text) s.appended t.1);
  failure = rose_from before.faults after.faults later.faults same rose;
}

pub broke_all : (o : Settings) (lines : List Piece) (text : List ℕ) (before after later : Received) → OutputIsScript o lines text before after → TakesPrefix after.taken later.taken text
    → after.faults ≡ before.faults → Rose after.faults later.faults → ReplayBroke o lines before later
broke_all o lines text before after later s t same rose =
    subst (λ (ls : List Piece). ReplayBroke o ls before later) (append-nil lines) (broke o lines [] text before after later s t same rose)

-- the session goes on with what is left written
pub playing_wrote : (o : Settings) (lines : List Piece) (core : CoreParts) (stage : ScriptStage) (text : List ℕ) (before after later : Received) → Playing o lines core stage text before after → Appends after.taken later.taken text
    → Playing o lines core stage [] before later
playing_wrote o lines core stage text before after later p a = record {
  fine = p.fine;
  place = p.place;
  trace = p.trace;
  count = p.count;
  lawful = p.lawful;
  stands = p.stands;
  short = p.short;
  events_are = p.events_are;
  written = p.written ++ text;
  appended = Appends-trans before.taken after.taken later.taken p.written text p.appended a;
  script_is = append-nil (p.written ++ text) ∙ p.script_is;
}

-- the same where no line may have come
pub took_wrote : (o : Settings) (lines : List Piece) (core : CoreParts) (stage : ScriptStage) (text : List ℕ) (before after later : Received) → ReplayTook o lines core stage text before after → Appends after.taken later.taken text
    → ReplayTook o lines core stage [] before later
took_wrote o [] core stage text before after later u a = record {
  is_start = u.is_start;
  stands = u.stands;
  is_empty = refl;
  appended = Appends-trans before.taken after.taken later.taken [] [] u.appended (subst (Appends after.taken later.taken) u.is_empty a);
}
took_wrote o (l ∷ ls) core stage text before after later p a = playing_wrote o (l ∷ ls) core stage text before after later p a

-- where something is left to write the session was opened
pub took_some : (o : Settings) (lines : List Piece) (core : CoreParts) (stage : ScriptStage) (text : List ℕ) (before after : Received) → 0 < length text → ReplayTook o lines core stage text before after → OutputIsScript o lines text before after
took_some o [] core stage text before after some u = let n = ap length u.is_empty in absurd (let z : ⊥ = omega (arith, n, some) in z)
took_some o (l ∷ ls) core stage text before after some p = scripted_by o (l ∷ ls) core stage text before after p

on_err : {T E : Type 0} (r : Result T E) (P : Type 0) → OnErr r P → is_err r ≡ true → P
on_err (Ok v) P h e = cc
on_err (Err x) P h e = h

on_ok : {T E : Type 0} (r : Result T E) (P : Type 0) → OnOk r P → is_err r ≡ false → P
on_ok (Ok v) P h e = h
on_ok (Err x) P h e = cc

-- the effect of a write
pub record Wrote {T E : Type 0} (r : Result T E) (old new : Player) (before after : Received) : Type 0 where
  pub ok : OnOk r (Appends before.taken after.taken old.text.text × (new ≡ player_with_text old (empty old.text.room)))
  pub err : OnErr r (TakesPrefix before.taken after.taken old.text.text × (new ≡ old))
  pub cause : ErrorIsCounted before.faults after.faults r
  pub some : OnErr r (0 < length old.text.text)

module _ {T E : Type 0} (r : Result T E) (old new : Player) (before after : Received) (w : Wrote r old new before after) where
  pub written : is_err r ≡ false → Appends before.taken after.taken old.text.text × (new ≡ player_with_text old (empty old.text.room))
  written e = on_ok r _ w.ok e

  pub unwritten : is_err r ≡ true → TakesPrefix before.taken after.taken old.text.text × (new ≡ old)
  unwritten e = on_err r _ w.err e

  pub rose : is_err r ≡ true → Rose before.faults after.faults
  rose e = on_err r _ w.cause.failed e

  pub same : is_err r ≡ false → after.faults ≡ before.faults
  same e = on_ok r _ w.cause.same e

  pub was_some : is_err r ≡ true → 0 < length old.text.text
  was_some e = on_err r _ w.some e

  pub may_written : is_err r ≡ false → ReplayMayGoOn old → ReplayMayGoOn new
  may_written e m = subst ReplayMayGoOn (sym (written e).1) (record { new = λ s. ((m.new s).0, refl); numbered = m.numbered; room = m.room })

  pub may_unwritten : is_err r ≡ true → ReplayMayGoOn old → ReplayMayGoOn new
  may_unwritten e m = subst ReplayMayGoOn (sym (unwritten e).1) m

  -- the lines stand as they did
  pub stood_written : (o : Settings) (lines : List Piece) (first : Received) → is_err r ≡ false → ReplayStood o lines old first before → ReplayStood o lines new first after
  stood_written o lines first e s = record {
    took = subst (λ (p : Player). ReplayTook o lines p.core p.stage p.text.text first after) (sym (written e).1) (took_wrote o lines old.core old.stage old.text.text first before after s.took (written e).0);
    may = may_written e s.may;
    no_failure = same e ∙ s.no_failure;
  }

  pub stood_unwritten : (o : Settings) (lines : List Piece) (first : Received) → is_err r ≡ true → ReplayStood o lines old first before → ReplayHalted o endings.WritingFailed lines new first after
  stood_unwritten o lines first e s = record {
    halts = inl (refl, broke_all o lines old.text.text first before after (took_some o lines old.core old.stage old.text.text first before (was_some e) s.took) (unwritten e).0 s.no_failure (rose e));
    may = may_unwritten e s.may;
  }

  pub playing_written : (o : Settings) (lines : List Piece) (first : Received) → is_err r ≡ false → Playing o lines old.core old.stage old.text.text first before → Playing o lines new.core new.stage new.text.text first after
  playing_written o lines first e p =
      subst (λ (x : Player). Playing o lines x.core x.stage x.text.text first after) (sym (written e).1) (playing_wrote o lines old.core old.stage old.text.text first before after p (written e).0)

  pub came_broke : (o : Settings) (lines : List Piece) (p : Piece) (first : Received) → is_err r ≡ true → ReplayMayGoOn old → before.faults ≡ first.faults → Playing o lines old.core old.stage old.text.text first before
      → ReplayHalted o endings.WritingFailed (lines ++ p ∷ []) new first after
  came_broke o lines p first e m f x = record {
    halts = inl (refl, broke o lines (p ∷ []) old.text.text first before after (scripted_by o lines old.core old.stage old.text.text first before x) (unwritten e).0 f (rose e));
    may = may_unwritten e m;
  }

  pub finished : (o : Settings) (lines : List Piece) (ending : Ending) (first : Received) → is_err r ≡ false → OutputIsScript o lines old.text.text first before → before.faults ≡ first.faults → ReplayFinished o lines ending ending first after
  finished o lines ending first e s f = inl (refl, wrote o lines old.text.text first before after s (written e).0, same e ∙ f)

  pub not_finished : (o : Settings) (lines : List Piece) (ending : Ending) (first : Received) → is_err r ≡ true → OutputIsScript o lines old.text.text first before → before.faults ≡ first.faults
      → ReplayFinished o lines ending endings.WritingFailed first after
  not_finished o lines ending first e s f = inr (refl, broke_all o lines old.text.text first before after s (unwritten e).0 f (rose e))

-- a line after others
module _ (o : Settings) (lines : List Piece) (p : Piece) (same : version_in (lines ++ p ∷ []) ≡ version_in lines) (number : ℕ) (number_is : number ≡ length lines + 1) where
  pub came_on : (old new : Player) (answer : Option Ending) (before after : Received) → Playing o lines old.core old.stage old.text.text before after
      → answer ≡ fault_said number (kind_says old.stage old.core.ends (kind_of_script_line p)) → LineIsPlayed old.core old.stage old.text (kind_says old.stage old.core.ends (kind_of_script_line p)) new.core new.stage new.text
      → ReplayMayGoOn new → after.faults ≡ before.faults → ReplayAfterLine o (lines ++ p ∷ []) answer new before after
  came_on old new answer before after x a t m f =
      came_by o lines p answer new before after (on_line o lines old.core old.stage old.text.text before after x p same number number_is new.core new.stage old.text new.text answer refl a t) m f

-- the session of the lines was opened
pub playing_of : (o : Settings) (lines : List Piece) (player : Player) (before after : Received) → is_first_stage player.stage ≡ false → ReplayStood o lines player before after → Playing o lines player.core player.stage player.text.text before after
playing_of o lines player before after e s = started o player.core player.stage player.text.text before after lines e s.took

pub version_more : (o : Settings) (lines : List Piece) (p : Piece) (player : Player) (before after : Received) → is_first_stage player.stage ≡ false → ReplayStood o lines player before after → version_in (lines ++ p ∷ []) ≡ version_in lines
version_more o [] p player before after e s = let x : is_first_stage player.stage ≡ true = ap is_first_stage s.took.is_start in let z = sym x ∙ e in cc
version_more o (l ∷ ls) p player before after e s = version_stays l ls (p ∷ [])

-- it was opened now
pub playing_opened : (o : Settings) (lines : List Piece) (old new : Player) (before after : Received) → is_first_stage old.stage ≡ true → ReplayStood o lines old before after → HasBegun None old.core old.text new.core new.stage new.text
    → (lines ≡ []) × Playing o [] new.core new.stage new.text.text before after
playing_opened o lines old new before after e s b =
    let u = unstarted o old.core old.stage old.text.text before after lines e s.took in
    (u.0, begun_plain o old.core new.core new.stage old.text new.text before after u.1.stands u.1.is_empty u.1.appended b.0 b.1)

pub scripted_opened : (o : Settings) (lines : List Piece) (old new : Player) (before after : Received) → is_first_stage old.stage ≡ true → ReplayStood o lines old before after → HasBegun None old.core old.text new.core new.stage new.text
    → OutputIsScript o lines new.text.text before after
scripted_opened o lines old new before after e s b =
    let p = playing_opened o lines old new before after e s b in
    subst (λ (ls : List Piece). OutputIsScript o ls new.text.text before after) (sym p.0) (scripted_by o [] new.core new.stage new.text.text before after p.1)

-- the outcome of a line, as the driver asks for it
pub then_by : {O : Type 0} (see : O → Received) (player0 : Player) (output0 : O) (pieces : List Piece) (result : Option Ending) (player : Player) (output : O)
    → ((o : Settings) → IsFresh o player0 → ReplayAfterLine o pieces result player (see output0) (see output)) → ConsumerThen (replays see) player0 output0 pieces result player output
then_by see player0 output0 pieces None player output h = h
then_by see player0 output0 pieces (Some e) player output h = h

-- an opened session goes on
pub may_headed : (player : Player) → player.stage ≡ stages.Headed → player.text.room ≡ 8388608 → ReplayMayGoOn player
may_headed player h r = record { new = λ e. absurd (not_start player.stage (ap is_first_stage h) e); numbered = subst (λ (s : ScriptStage). IsNumbered s) (sym h) tt; room = r }

pub may_plain : (player : Player) → player.stage ≡ stages.Plain → player.text.room ≡ 8388608 → ReplayMayGoOn player
may_plain player h r = record { new = λ e. absurd (not_start player.stage (ap is_first_stage h) e); numbered = subst (λ (s : ScriptStage). IsNumbered s) (sym h) tt; room = r }

pub may_taken : (old new : Player) (said : LineSaid) → is_first_stage old.stage ≡ false → LineIsPlayed old.core old.stage old.text said new.core new.stage new.text → IsNumbered new.stage → new.text.room ≡ 8388608 → ReplayMayGoOn new
may_taken old new said e t n r =
    let is_open = takes_open old.core old.stage old.text said new.core new.stage new.text e t in
    record { new = λ s. absurd (not_start new.stage is_open s); numbered = n; room = r }

-- the first line is no header
pub came_first : (o : Settings) (lines : List Piece) (p : Piece) (result : Option Ending) (player : Player) (before after : Received) → lines ≡ [] → ReplayAfterLine o ([] ++ p ∷ []) result player before after
    → ReplayAfterLine o (lines ++ p ∷ []) result player before after
came_first o lines p result player before after e c = subst (λ (ls : List Piece). ReplayAfterLine o (ls ++ p ∷ []) result player before after) (sym e) c
