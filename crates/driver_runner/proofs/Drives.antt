-- The driver keeps what a mediator has to keep.
use Rattle.std.proofs.Common.{◌≡◌, ℕ, List, [], ◌∷◌, ◌++◌, true, false, cond, ◌||◌, refl, sym, ap, subst, ◌∙◌, append-nil}
use Rattle.line_io.specs.Event.{Event, Open, IfaceLost, EngineLost}
use Rattle.line_io.specs.Out.{Text, with}
use Rattle.event_pipe.specs.declared.message.Peer.{Peer}
use Rattle.event_pipe.specs.declared.message.Peer.TheVariants as peers
use Rattle.event_pipe.specs.Events.{of, has_last_event}
use Rattle.event_pipe.proofs.Roles.{more_ended}
use Rattle.cecp_driver.specs.declared.driver.DriverParts.{DriverParts}
use Rattle.cecp_driver.specs.Driver.{opening_driver}
use Rattle.cecp_driver.specs.Script.{DriverTakes, DriverTakesAll, may_come, last_of, given_marks, script_text}
use Rattle.cecp_driver.proofs.Sound.{runs_are_sound}
use Rattle.cecp_driver.proofs.Scripts.{goes_more, last_more, text_more, up_more, down_more}
use Rattle.event_loop.specs.Turns.{events_of_turns, is_own_event, loss}
use Rattle.event_loop.specs.Meaning.{Allows, Opens, MediatorSteps, turn_of_mediator}
use Rattle.driver_runner.specs.declared.driving.Driving.{Driving}
use Rattle.driver_runner.specs.Drives.{driving_meaning}
use Rattle.driver_runner.proofs.HeardEvents.{gone_next, may_is}

-- the loop's own events may not come
not_own : (v : DriverParts) (e : Event) → may_come v e ≡ true → is_own_event e ≡ false
not_own v Open h = cc
not_own v IfaceLost h = cc
not_own v EngineLost h = cc
not_own v e h = refl

never_lost : (v : DriverParts) (p : Peer) → may_come v (loss p) ≡ true → ⊥
never_lost v peers.Iface h = cc
never_lost v peers.Engine h = cc

pub allows : (d : Driving) (e : Event) → Allows driving_meaning d e
allows d e =
    record {
      follows = λ d0 turns x f. may_is e d.driver (events_of_turns turns) x.gone f;
      owed = λ p d0 turns x h hears g n. cc;
      once = λ p d0 turns x h m. absurd (never_lost d.driver p (ap (λ (z : Event). may_come d.driver z) (sym h) ∙ m));
    }

pub steps : (old new : Driving) (e : Event) (held held' : Text) → DriverTakes e old.driver new.driver → held' ≡ with held (given_marks e new.driver) → MediatorSteps driving_meaning e old held new held'
steps old new e held held' t put =
    let own = not_own old.driver e t.may in
    record {
      piece = given_marks e new.driver;
      put = put;
      goes = λ d0 turns x.
          let more : events_of_turns turns ++ e ∷ [] ≡ events_of_turns (turn_of_mediator driving_meaning e new (given_marks e new.driver) ∷ turns) = ap (λ b. events_of_turns turns ++ cond b [] (e ∷ [])) (sym own) in
          let takes : DriverTakes e (last_of opening_driver x.states) new.driver = subst (λ (v : DriverParts). DriverTakes e v new.driver) x.now t in
          let run : DriverTakesAll opening_driver (events_of_turns (turn_of_mediator driving_meaning e new (given_marks e new.driver) ∷ turns)) (x.states ++ new.driver ∷ []) =
          subst (λ (es : List Event). DriverTakesAll opening_driver es (x.states ++ new.driver ∷ [])) more (goes_more opening_driver (events_of_turns turns) x.states e new.driver x.goes takes) in
          record {
            states = x.states ++ new.driver ∷ [];
            goes = run;
            sound = runs_are_sound (events_of_turns (turn_of_mediator driving_meaning e new (given_marks e new.driver) ∷ turns)) (x.states ++ new.driver ∷ []) run;
            now = sym (last_more opening_driver x.states new.driver);
            gone = gone_next e old.driver new.driver t.comes ∙ ap (λ b. b || has_last_event (of 2 (e ∷ []))) x.gone ∙ sym (more_ended 2 (events_of_turns turns) (e ∷ [])) ∙ ap (λ (es : List Event). has_last_event (of 2 es)) more;
            up = ap (λ (l : List ℕ). l ++ new.driver.up.text) x.up ∙ sym (up_more x.states new.driver);
            down = ap (λ (l : List ℕ). l ++ new.driver.down.text) x.down ∙ sym (down_more x.states new.driver);
            log = ap (λ (l : List ℕ). l ++ given_marks e new.driver) x.log ∙ sym (text_more opening_driver (events_of_turns turns) x.states e new.driver x.goes)
                ∙ ap (λ (es : List Event). script_text es (x.states ++ new.driver ∷ [])) more;
          };
    }

pub opens : (old new : Driving) (held held' : Text) → old.driver ≡ opening_driver → new.driver ≡ old.driver → held' ≡ held → Opens driving_meaning old held new held'
opens old new held held' fresh same e =
    let v : new.driver ≡ opening_driver = same ∙ fresh in
    record {
      piece = [];
      put = e ∙ ap (λ (l : List ℕ). record { text = l; room = held.room }) (sym (append-nil held.text));
      did = record {
        states = [];
        goes = tt;
        sound = runs_are_sound [] [] tt;
        now = v;
        gone = ap (λ (p : DriverParts). p.talk.gone) v;
        up = ap (λ (p : DriverParts). p.up.text) v;
        down = ap (λ (p : DriverParts). p.down.text) v;
        log = refl;
      };
    }
