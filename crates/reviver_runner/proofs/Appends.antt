-- Events in a row, and more of them.
use Rattle.std.proofs.Common.{◌≡◌, ◌≢◌, ℕ, List, [], ◌∷◌, ◌++◌, Bool, true, false, refl, sym, ap, subst, ◌∙◌, arith, append-nil, append_assoc}
use Rattle.std.specs.Io.KnownBytes.{Appends}
use Rattle.std.proofs.KnownBytes.{Appends-nil, Appends-trans}
use Rattle.line_io.specs.Event.{Event}
use Rattle.line_io.specs.Source.{Received}
use Rattle.engine_revival.specs.declared.state.RevivalState.{RevivalState}
use Rattle.engine_revival.specs.Script.{AllMayHappen, revival_state_after, state_behind, texts_from, revival_event_text, may_happen}
use Rattle.event_pipe.specs.Counts.{CountsFault}
use Rattle.program_lifecycle.specs.Streams.{sinks, TookPrefix, Offered}
use Rattle.program_lifecycle.specs.Took.{LogTook}
use Rattle.reviver_runner.specs.Played.{event_up, event_child, revival_lines_up, lines_to_child}
use Rattle.reviver_runner.specs.Looped.{Offers, LoopState, LifePlayed, PlayedUp}

pub behind_append : (s : RevivalState) (es fs : List Event) → state_behind s (es ++ fs) ≡ state_behind (state_behind s es) fs
behind_append s [] fs = refl
behind_append s (e ∷ es) fs = behind_append (revival_state_after s e) es fs

pub may_append : (s : RevivalState) (es fs : List Event) → AllMayHappen s es → AllMayHappen (state_behind s es) fs → AllMayHappen s (es ++ fs)
may_append s [] fs a b = b
may_append s (e ∷ es) fs a b = (a.0, may_append (revival_state_after s e) es fs a.1 b)

pub up_append : (s : RevivalState) (es fs : List Event) → revival_lines_up s (es ++ fs) ≡ revival_lines_up s es ++ revival_lines_up (state_behind s es) fs
up_append s [] fs = refl
up_append s (e ∷ es) fs =
    ap (λ (l : List ℕ). event_up s e ++ l) (up_append (revival_state_after s e) es fs) ∙ sym (append_assoc (event_up s e) (revival_lines_up (revival_state_after s e) es) (revival_lines_up (state_behind (revival_state_after s e) es) fs))

pub child_append : (s : RevivalState) (es fs : List Event) → lines_to_child s (es ++ fs) ≡ lines_to_child s es ++ lines_to_child (state_behind s es) fs
child_append s [] fs = refl
child_append s (e ∷ es) fs =
    ap (λ (l : List ℕ). event_child s e ++ l) (child_append (revival_state_after s e) es fs)
    ∙ sym (append_assoc (event_child s e) (lines_to_child (revival_state_after s e) es) (lines_to_child (state_behind (revival_state_after s e) es) fs))

pub text_append : (s : RevivalState) (es fs : List Event) → texts_from s (es ++ fs) ≡ texts_from s es ++ texts_from (state_behind s es) fs
text_append s [] fs = refl
text_append s (e ∷ es) fs =
    ap (λ (l : List ℕ). revival_event_text s e ++ l) (text_append (revival_state_after s e) es fs)
    ∙ sym (append_assoc (revival_event_text s e) (texts_from (revival_state_after s e) es) (texts_from (state_behind (revival_state_after s e) es) fs))

-- TWO OFFERS

some_left : (p q : List ℕ) → p ≢ [] → (p ++ q) ≢ []
some_left [] q n e = n refl
some_left (x ∷ p) q n e = cc

some_right : (p q : List ℕ) → q ≢ [] → (p ++ q) ≢ []
some_right [] q n e = n e
some_right (x ∷ p) q n e = cc

pub offered_none : (f : Bool) (a : Received) → Offered f f a a []
offered_none true a = record { stays = λ h. (refl, refl); whole = λ h. cc; prefix = λ h. cc; count = λ h. cc }
offered_none false a =
    record { stays = λ h. cc; whole = λ h. Appends-nil a.taken; prefix = λ h g. cc; count = λ h. record { later = omega arith; rose = λ x. cc; same = λ x. refl } }

pub offered_both : (f g h : Bool) (a b c : Received) (p q : List ℕ) → Offered f g a b p → Offered g h b c q → Offered f h a c (p ++ q)
offered_both true true true a b c p q x y =
    let u = x.stays refl in let v = y.stays refl in record { stays = λ _. (refl, v.1 ∙ u.1); whole = λ z. cc; prefix = λ z. cc; count = λ z. cc }
offered_both true true false a b c p q x y = let v = (y.stays refl).0 in cc
offered_both true false h a b c p q x y = let u = (x.stays refl).0 in cc
offered_both false true false a b c p q x y = let v = (y.stays refl).0 in cc
offered_both false true true a b c p q x y =
    let v = (y.stays refl).1 in
    let w = x.prefix refl refl in
    record {
      stays = λ z. cc;
      whole = λ z. cc;
      prefix = λ _ _. (
        some_left p q w.0,
        record { prefix = w.1.prefix; rest = w.1.rest ++ q; is = ap (λ l. l ++ q) w.1.is ∙ append_assoc w.1.prefix w.1.rest q; took = subst (λ (z : Received). Appends a.taken z.taken w.1.prefix) (sym v) w.1.took },
      );
      count = λ _. subst (λ (z : Received). CountsFault a.faults z.faults true) (sym v) (x.count refl);
    }
offered_both false false false a b c p q x y =
    let t = (x.count refl).same refl in
    record {
      stays = λ z. cc;
      whole = λ _. Appends-trans a.taken b.taken c.taken p q (x.whole refl) (y.whole refl);
      prefix = λ z w. cc;
      count = λ _. subst (λ n. CountsFault n c.faults false) t (y.count refl);
    }
offered_both false false true a b c p q x y =
    let t = (x.count refl).same refl in
    let w = y.prefix refl refl in
    record {
      stays = λ z. cc;
      whole = λ z. cc;
      prefix = λ _ _. (
        some_right p q w.0,
        record { prefix = p ++ w.1.prefix; rest = w.1.rest; is = ap (λ l. p ++ l) w.1.is ∙ sym (append_assoc p w.1.prefix w.1.rest); took = Appends-trans a.taken b.taken c.taken p w.1.prefix (x.whole refl) w.1.took },
      );
      count = λ _. subst (λ n. CountsFault n c.faults true) t (y.count refl);
    }

pub offered_as : (f g : Bool) (a b : Received) (p q : List ℕ) → q ≡ p → Offered f g a b p → Offered f g a b q
offered_as f g a b p q e x = subst (λ (l : List ℕ). Offered f g a b l) (sym e) x

-- the part of all that a sink took that had not failed
pub took : (f : Bool) (a b : Received) (p : List ℕ) → Offered false f a b p → LogTook p f a b
took f a b p x = record { whole = λ h. x.whole h; prefix = λ h. (x.prefix refl h).1; count = x.count refl }

-- EVENTS THAT WERE PLAYED

pub up_none : (a : LoopState) → PlayedUp a a []
up_none a = record { may = tt; state_is = refl; up = offered_none a.failed.output a.output; marks = offered_none a.failed.log a.log }

pub up_one : (a b : LoopState) (e : Event) → may_happen a.state e ≡ true → b.state ≡ revival_state_after a.state e
    → Offered a.failed.output b.failed.output a.output b.output (event_up a.state e) → Offered a.failed.log b.failed.log a.log b.log (revival_event_text a.state e) → PlayedUp a b (e ∷ [])
up_one a b e m z u v =
    record {
      may = (m, tt);
      state_is = z;
      up = offered_as _ _ _ _ _ _ (append-nil (event_up a.state e)) u;
      marks = offered_as _ _ _ _ _ _ (append-nil (revival_event_text a.state e)) v;
    }

pub up_both : (a b c : LoopState) (es fs : List Event) → PlayedUp a b es → PlayedUp b c fs → PlayedUp a c (es ++ fs)
up_both a b c es fs x y =
    let k = x.state_is in
    record {
      may = may_append a.state es fs x.may (subst (λ (z : RevivalState). AllMayHappen z fs) k y.may);
      state_is = y.state_is ∙ ap (λ (z : RevivalState). state_behind z fs) k ∙ sym (behind_append a.state es fs);
      up = offered_as _ _ _ _ _ _ (up_append a.state es fs ∙ ap (λ (z : RevivalState). revival_lines_up a.state es ++ revival_lines_up z fs) (sym k)) (offered_both _ _ _ _ _ _ _ _ x.up y.up);
      marks = offered_as _ _ _ _ _ _ (text_append a.state es fs ∙ ap (λ (z : RevivalState). texts_from a.state es ++ texts_from z fs) (sym k)) (offered_both _ _ _ _ _ _ _ _ x.marks y.marks);
    }

pub played_none : (a : LoopState) (sink : Received) → LifePlayed a a sink sink []
played_none a sink = record { up = up_none a; child = offered_none a.failed.engine sink }

pub played_more : (a b c : LoopState) (x y z : Received) (es : List Event) (e : Event) → LifePlayed a b x y es → may_happen b.state e ≡ true → c.state ≡ revival_state_after b.state e
    → Offers (event_up b.state e) (event_child b.state e) (revival_event_text b.state e) (sinks b.output y b.log) (sinks c.output z c.log) b.failed c.failed → LifePlayed a c x z (es ++ e ∷ [])
played_more a b c x y z es e p m s o =
    record {
      up = up_both a b c es (e ∷ []) p.up (up_one b c e m s o.output o.log);
      child =
          offered_as _ _ _ _ _ _
          (child_append a.state es (e ∷ []) ∙ ap (λ (k : RevivalState). lines_to_child a.state es ++ lines_to_child k (e ∷ [])) (sym p.up.state_is)
          ∙ ap (λ (l : List ℕ). lines_to_child a.state es ++ l) (append-nil (event_child b.state e)))
          (offered_both _ _ _ _ _ _ _ _ p.child o.engine);
    }
