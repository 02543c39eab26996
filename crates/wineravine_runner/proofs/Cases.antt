-- The consequences of the case in which the program was.
use Rattle.std.proofs.Common.{◌≡◌, ◌≢◌, IfSome, ◌∙◌, ◌⊎◌, inl, inr, ℕ, List, [], ◌∷◌, Bool, true, false, refl, sym, ap, subst, arith}
use Rattle.std.proofs.lemmas.Bool.Decides.{eqb_tells}
use Rattle.clap.specs.Words.{Text}
use Rattle.clap.specs.declared.error.kind.ErrorKind.TheVariants as kinds
use Rattle.line_io.specs.Causes.{Rose}
use Rattle.line_io.specs.Source.{Received}
use Rattle.program_lifecycle.specs.Outside.{Outside, HaveNotRisen, AreAsBefore}
use Rattle.program_lifecycle.specs.Program.{StatusIsReported, StatusSays, IsReportedTo}
use Rattle.program_lifecycle.specs.declared.ending.ProgramEnding.TheVariants as endings
use Rattle.program_lifecycle.proofs.Causes as causes
use Rattle.bridge_runner.specs.Program.{RunsAsAsked, BridgeRunsWhole}
use Rattle.bridge_runner.proofs.Whole.{whole_by}
use Rattle.bridge_command_line.specs.WineravineArguments.{WineravineArgumentsAreTaken, AskForHelp, AskForVersion, AreWrong, WineravineSettingsAreAsked, first_lines, wineravine_argument_values}
use Rattle.bridge_command_line.specs.declared.help.TheConstants.{HELP}
use Rattle.wineravine_runner.specs.Program.{Did, WineravineDoes, ArgumentsFitCase, LacksMemory, Refuses, WineravineRuns, ShowsTextOnly, TextIsShown, IsCut, engine_named, not_started, version_text}

-- THE CASES EXCLUDE EACH OTHER

module _ (arguments : List Text) where
  pub taken_no_help : WineravineArgumentsAreTaken arguments → AskForHelp arguments → ⊥
  taken_no_help t h = let z : [] ≡ kinds.DisplayHelp ∷ [] = sym t.no_fault ∙ h.request in cc

  pub taken_no_version : WineravineArgumentsAreTaken arguments → AskForVersion arguments → ⊥
  taken_no_version t v = let z : [] ≡ kinds.DisplayVersion ∷ [] = sym t.no_fault ∙ v.request in cc

  pub help_no_version : AskForHelp arguments → AskForVersion arguments → ⊥
  help_no_version h v = let z : kinds.DisplayHelp ∷ [] ≡ kinds.DisplayVersion ∷ [] = sym h.request ∙ v.request in cc

  wrong_no_fit : AreWrong arguments → ArgumentsFitCase arguments → ⊥
  wrong_no_fit w (inl t) = w.no_run t
  wrong_no_fit w (inr (inl h)) = w.no_help h
  wrong_no_fit w (inr (inr v)) = w.no_version v

module _ (arguments : List Text) (before after : Outside) (diag diag' : Received) (code : ℕ) where
  -- without memory, a run is one that was not begun
  not_begun : LacksMemory before after diag diag' code → WineravineRuns arguments before after diag diag' code
  not_begun lacks = record {
    left = before;
    answers = record {
      ending = endings.NoMemory;
      ends = record {
        usage = λ u t. let z : endings.NoMemory ≡ endings.Usage = u in cc;
        refused = λ n. inr refl;
        did = inl (record { same = refl; why = inr refl });
      };
      code_is = lacks.code_is;
      diagnosed = lacks.reported;
    };
    only_output = lacks.nothing ∙ ap (λ (o : Outside). record before { output = o.output }) (sym lacks.nothing);
    unstarted = λ z. let bad : 3 ≡ 8 = sym lacks.code_is ∙ z in absurd (omega arith);
    else_same = λ z. lacks.nothing;
  }

  pub does : Did arguments before after diag diag' code → WineravineDoes arguments before after diag diag' code
  does (inl h) = record {
    help = λ a. inl h.1;
    version = λ v. absurd (help_no_version arguments h.0 v);
    wrong = λ w. absurd (w.no_help h.0);
    run = λ t. absurd (taken_no_help arguments t h.0);
  }
  does (inr (inl v)) = record {
    help = λ a. absurd (help_no_version arguments a v.0);
    version = λ a. inl v.1;
    wrong = λ w. absurd (w.no_version v.0);
    run = λ t. absurd (taken_no_version arguments t v.0);
  }
  does (inr (inr (inl w))) = record {
    help = λ a. absurd (w.0.no_help a);
    version = λ a. absurd (w.0.no_version a);
    wrong = λ a. inl w.1;
    run = λ t. absurd (w.0.no_run t);
  }
  does (inr (inr (inr (inl r)))) = record {
    help = λ a. absurd (taken_no_help arguments r.0 a);
    version = λ a. absurd (taken_no_version arguments r.0 a);
    wrong = λ a. absurd (a.no_run r.0);
    run = λ t. r.1;
  }
  does (inr (inr (inr (inr lacks)))) = record {
    help = λ a. inr lacks;
    version = λ a. inr lacks;
    wrong = λ a. inr lacks;
    run = λ t. not_begun lacks;
  }

  other : {P : Type 0} (m n : ℕ) → (m ≡ n → ⊥) → code ≡ m → code ≡ n → P
  other m n differ e z = absurd (differ (sym e ∙ z))

  -- WHAT EACH STATUS SAYS

  -- only the output changed
  output_alone : after ≡ record before { output = after.output } → after.output.faults ≡ before.output.faults → AreAsBefore before after
  output_alone only same = record {
    input = ap (λ (o : Outside). o.input.faults) only;
    output = same;
    reads = ap (λ (o : Outside). o.faults.reads) only;
    writes = ap (λ (o : Outside). o.faults.writes) only;
    starts = ap (λ (o : Outside). o.faults.starts) only;
    logs = ap (λ (o : Outside). o.faults.logs) only;
    waits = ap (λ (o : Outside). o.faults.waits) only;
  }

  text_shown : (text : List ℕ) → ArgumentsFitCase arguments → after ≡ record before { output = after.output } → TextIsShown text before.output after.output diag diag' code
      → StatusSays (ArgumentsFitCase arguments) before after code
  text_shown text fit only shown = let e = shown.code_is in record {
    done = λ z. output_alone only shown.same;
    usage = λ z f. other 0 2 (λ d. omega (arith, d)) e z;
    refused = λ n. absurd (n fit);
    reading = λ z. other 0 4 (λ d. omega (arith, d)) e z;
    writing = λ z. other 0 5 (λ d. omega (arith, d)) e z;
    engine_reading = λ z. other 0 6 (λ d. omega (arith, d)) e z;
    engine_writing = λ z. other 0 7 (λ d. omega (arith, d)) e z;
    engine_start = λ z. other 0 8 (λ d. omega (arith, d)) e z;
    log = λ z. other 0 9 (λ d. omega (arith, d)) e z;
    engine_wait = λ z. other 0 10 (λ d. omega (arith, d)) e z;
    complete = λ f n. inl e;
  }

  text_cut : (text : List ℕ) → ArgumentsFitCase arguments → IsCut text before.output after.output diag diag' code → StatusSays (ArgumentsFitCase arguments) before after code
  text_cut text fit cut = let e = cut.code_is in record {
    done = λ z. other 5 0 (λ d. omega (arith, d)) e z;
    usage = λ z f. other 5 2 (λ d. omega (arith, d)) e z;
    refused = λ n. absurd (n fit);
    reading = λ z. other 5 4 (λ d. omega (arith, d)) e z;
    writing = λ z. cut.failed;
    engine_reading = λ z. other 5 6 (λ d. omega (arith, d)) e z;
    engine_writing = λ z. other 5 7 (λ d. omega (arith, d)) e z;
    engine_start = λ z. other 5 8 (λ d. omega (arith, d)) e z;
    log = λ z. other 5 9 (λ d. omega (arith, d)) e z;
    engine_wait = λ z. other 5 10 (λ d. omega (arith, d)) e z;
    complete = λ f n. absurd (n.output cut.failed);
  }

  text_says : (text : List ℕ) → ArgumentsFitCase arguments → ShowsTextOnly text before after diag diag' code → StatusSays (ArgumentsFitCase arguments) before after code
  text_says text fit shows = elim shows.ends [
    | inl shown ↦ text_shown text fit shows.only_output shown
    | inr cut ↦ text_cut text fit cut
  ]

  -- neither of two statuses is another one
  never : {P : Type 0} (n m : ℕ) → ((n ≡ 2) ⊎ (n ≡ 3)) → code ≡ n → (2 ≡ m → ⊥) → (3 ≡ m → ⊥) → code ≡ m → P
  never n m (inl z) e two three at = absurd (two (sym z ∙ sym e ∙ at))
  never n m (inr z) e two three at = absurd (three (sym z ∙ sym e ∙ at))

  one_of : (n : ℕ) → ((n ≡ 2) ⊎ (n ≡ 3)) → code ≡ n → (code ≡ 2) ⊎ (code ≡ 3)
  one_of n (inl z) e = inl (e ∙ z)
  one_of n (inr z) e = inr (e ∙ z)

  -- a status that says nothing but of the words
  words_say : (n : ℕ) → ((n ≡ 2) ⊎ (n ≡ 3)) → code ≡ n → (n ≡ 2 → ArgumentsFitCase arguments → ⊥) → (ArgumentsFitCase arguments → (code ≡ 0) ⊎ (code ≡ 3)) → StatusSays (ArgumentsFitCase arguments) before after code
  words_say n which e no_fit complete = record {
    done = never n 0 which e (λ d. omega (arith, d)) (λ d. omega (arith, d));
    usage = λ z. no_fit (sym e ∙ z);
    refused = λ not. one_of n which e;
    reading = never n 4 which e (λ d. omega (arith, d)) (λ d. omega (arith, d));
    writing = never n 5 which e (λ d. omega (arith, d)) (λ d. omega (arith, d));
    engine_reading = never n 6 which e (λ d. omega (arith, d)) (λ d. omega (arith, d));
    engine_writing = never n 7 which e (λ d. omega (arith, d)) (λ d. omega (arith, d));
    engine_start = never n 8 which e (λ d. omega (arith, d)) (λ d. omega (arith, d));
    log = never n 9 which e (λ d. omega (arith, d)) (λ d. omega (arith, d));
    engine_wait = never n 10 which e (λ d. omega (arith, d)) (λ d. omega (arith, d));
    complete = λ f not. complete f;
  }

  refused_says : AreWrong arguments → Refuses before after diag diag' code → StatusSays (ArgumentsFitCase arguments) before after code
  refused_says wrong r = words_say 2 (inl refl) r.code_is (λ z. wrong_no_fit arguments wrong) (λ f. absurd (wrong_no_fit arguments wrong f))

  lacking_says : LacksMemory before after diag diag' code → StatusSays (ArgumentsFitCase arguments) before after code
  lacking_says lacks = words_say 3 (inr refl) lacks.code_is (λ z. absurd (omega (arith, z))) (λ f. inr lacks.code_is)

  -- a run that left what is there after it
  run_says : WineravineArgumentsAreTaken arguments → StatusSays (WineravineArgumentsAreTaken arguments) before after code → StatusSays (ArgumentsFitCase arguments) before after code
  run_says taken s = record {
    done = s.done;
    usage = λ z f. s.usage z taken;
    refused = λ n. absurd (n (inl taken));
    reading = s.reading;
    writing = s.writing;
    engine_reading = s.engine_reading;
    engine_writing = s.engine_writing;
    engine_start = s.engine_start;
    log = s.log;
    engine_wait = s.engine_wait;
    complete = λ f n. s.complete taken n;
  }

  -- a run that could not start its engine
  unstarted_says : WineravineArgumentsAreTaken arguments → code ≡ 8 → Rose before.faults.starts after.faults.starts → StatusSays (ArgumentsFitCase arguments) before after code
  unstarted_says taken e rose = record {
    done = λ z. other 8 0 (λ d. omega (arith, d)) e z;
    usage = λ z f. other 8 2 (λ d. omega (arith, d)) e z;
    refused = λ n. absurd (n (inl taken));
    reading = λ z. other 8 4 (λ d. omega (arith, d)) e z;
    writing = λ z. other 8 5 (λ d. omega (arith, d)) e z;
    engine_reading = λ z. other 8 6 (λ d. omega (arith, d)) e z;
    engine_writing = λ z. other 8 7 (λ d. omega (arith, d)) e z;
    engine_start = λ z. rose;
    log = λ z. other 8 9 (λ d. omega (arith, d)) e z;
    engine_wait = λ z. other 8 10 (λ d. omega (arith, d)) e z;
    complete = λ f n. absurd (n.starts rose);
  }

  by_answers : (r : WineravineRuns arguments before after diag diag' code) → StatusSays (WineravineArgumentsAreTaken arguments) before r.left code
  by_answers r = causes.status_says _ _ _ _ _ _ r.answers.code_is r.answers.ends

  ran_says : WineravineArgumentsAreTaken arguments → WineravineRuns arguments before after diag diag' code → StatusSays (ArgumentsFitCase arguments) before after code
  ran_says taken r = elim (eqb_tells code 8) [
    | inl same ↦
        let said = by_answers r in
        unstarted_says taken same.1
        (subst (λ (o : Outside). Rose before.faults.starts o.faults.starts) (sym r.only_output) (said.engine_start same.1))
    | inr differ ↦
        run_says taken (subst (λ (o : Outside). StatusSays (WineravineArgumentsAreTaken arguments) before o code) (sym (r.else_same differ.1)) (by_answers r))
  ]

  pub says : Did arguments before after diag diag' code → StatusSays (ArgumentsFitCase arguments) before after code
  says (inl h) = text_says HELP.now (inr (inl h.0)) h.1
  says (inr (inl v)) = text_says version_text (inr (inr v.0)) v.1
  says (inr (inr (inl w))) = refused_says w.0 w.1
  says (inr (inr (inr (inl r)))) = ran_says r.0 r.1
  says (inr (inr (inr (inr lacks)))) = lacking_says lacks

  -- AN ENGINE THAT WAS NOT STARTED

  not_eight : (m : ℕ) → (m ≡ 8 → ⊥) → code ≡ m → code ≡ 8 → ⊥
  not_eight m differ e z = differ (sym e ∙ z)

  shows_not : (text : List ℕ) → ShowsTextOnly text before after diag diag' code → code ≡ 8 → ⊥
  shows_not text shows = elim shows.ends [
    | inl shown ↦ not_eight 0 (λ d. omega (arith, d)) shown.code_is
    | inr cut ↦ not_eight 5 (λ d. omega (arith, d)) cut.code_is
  ]

  -- the diagnostic for an engine that a run could not start
  abbrev Unstarted : Type 0
  Unstarted = (after.input ≡ before.input) × IsReportedTo before.output after.output (not_started (engine_named arguments))

  reported_unstarted : (r : WineravineRuns arguments before after diag diag' code) → code ≡ 8 → Unstarted
  reported_unstarted r z =
      let same : (r.left.input ≡ before.input) × (r.left.output ≡ before.output) =
      causes.unstarted _ _ _ _ _ r.answers.ends (sym r.answers.code_is ∙ z)
      (λ f asked e. let leaves = asked.runs.leaves in leaves.nothing (leaves.unstarted e)) in (
        ap (λ (o : Outside). o.input) r.only_output ∙ same.0,
        subst (λ (o : Received). IsReportedTo o after.output (not_started (engine_named arguments))) same.1 (r.unstarted z),
      )

  pub unstarted : Did arguments before after diag diag' code → code ≡ 8 → Unstarted
  unstarted (inl h) z = absurd (shows_not HELP.now h.1 z)
  unstarted (inr (inl v)) z = absurd (shows_not version_text v.1 z)
  unstarted (inr (inr (inl w))) z = absurd (not_eight 2 (λ d. omega (arith, d)) w.1.code_is z)
  unstarted (inr (inr (inr (inl r)))) z = reported_unstarted r.1 z
  unstarted (inr (inr (inr (inr lacks)))) z = absurd (not_eight 3 (λ d. omega (arith, d)) lacks.code_is z)

  -- A RUN IN WHICH NOTHING FAILED

  abbrev WholeRun : Type 0
  WholeRun =
      before.ledger.sinks_report ≡ true
      → IfSome before.ledger.says (λ bytes. BridgeRunsWhole (WineravineSettingsAreAsked (wineravine_argument_values arguments)) (first_lines (wineravine_argument_values arguments)) bytes before after)

  whole_by_run : code ≡ 0 → WineravineRuns arguments before after diag diag' code → WholeRun
  whole_by_run z r sinks_report =
      subst (λ (o : Outside). IfSome before.ledger.says (λ bytes. BridgeRunsWhole (WineravineSettingsAreAsked (wineravine_argument_values arguments)) (first_lines (wineravine_argument_values arguments)) bytes before o))
      (sym (r.else_same (λ e. absurd (omega (arith, e, z)))))
      (causes.fine _ _ _ _ _ r.answers.ends (sym r.answers.code_is ∙ z) (λ f run e. whole_by _ _ _ _ f run e sinks_report))

  pub whole : Did arguments before after diag diag' code → code ≡ 0 → WineravineArgumentsAreTaken arguments → WholeRun
  whole (inl h) z t = absurd (taken_no_help arguments t h.0)
  whole (inr (inl v)) z t = absurd (taken_no_version arguments t v.0)
  whole (inr (inr (inl w))) z t = absurd (w.0.no_run t)
  whole (inr (inr (inr (inl r)))) z t = whole_by_run z r.1
  whole (inr (inr (inr (inr lacks)))) z t = absurd (omega (arith, lacks.code_is, z))
