-- The meaning of a host's counts for the parts that it closed.
use Rattle.std.proofs.Common.{◌≡◌, ◌∙◌, ℕ, ◌<◌, Bool, true, false, refl, sym, ap, subst, ◌||◌, arith, Result, Ok, Err}
use Rattle.std.specs.Result.{is_err}
use Rattle.line_io.specs.Causes.{Rose, ErrorIsCounted}
use Rattle.event_pipe.specs.Counts.{CountsFault}
use Rattle.child_engine.specs.Hosts.{RisesBy}
use Rattle.child_engine.specs.declared.host.Faults.{Faults}

pub retold : (a b : ℕ) (x y : Bool) → x ≡ y → CountsFault a b y → CountsFault a b x
retold a b x y e t = subst (λ z. CountsFault a b z) (sym e) t

rose_some : (n : ℕ) → Rose 0 n → 0 < n
rose_some n r = omega (arith, r)

-- a part had no fault at first
pub told_by : (first part old new : ℕ) (failed : Bool) → first ≡ 0 → CountsFault first part failed → RisesBy part old new → CountsFault old new failed
told_by first part old new true z t r = record { later = r.later; rose = λ _. r.rose (rose_some part (subst (λ k. Rose k part) z (t.rose refl))); same = λ f. cc }
told_by first part old new false z t r = record { later = r.later; rose = λ f. cc; same = λ _. r.same (t.same refl ∙ z) }

-- the log could not be opened, or failed
pub log_reported : (first part a b d e : ℕ) (failed done : Bool) → first ≡ 0 → CountsFault a b failed → d ≡ b → CountsFault first part done → RisesBy part d e → CountsFault a e (failed || done)
log_reported first part a b d e true done z t q w r =
    let rose = t.rose refl in
    let up = r.later in
    record { later = omega (arith, t.later, q, up); rose = λ _. omega (arith, rose, q, up); same = λ f. cc }
log_reported first part a b d e false done z t q w r =
    subst (λ k. CountsFault k e done) (q ∙ t.same refl) (told_by first part d e done z w r)

cause_reported : {T E : Type 0} (a b : ℕ) (failed : Bool) (r : Result T E) → failed ≡ is_err r → ErrorIsCounted a b r → CountsFault a b failed
cause_reported a b failed (Ok x) e h = record { later = h.later; rose = λ f. let z : false ≡ true = sym e ∙ f in cc; same = λ _. h.same }
cause_reported a b failed (Err x) e h = record { later = h.later; rose = λ _. h.failed; same = λ f. let z : false ≡ true = sym f ∙ e in cc }

pub same_reported : (a b : ℕ) → b ≡ a → CountsFault a b false
same_reported a b e = record { later = omega (arith, e); rose = λ f. cc; same = λ _. e }

-- the log was opened before the run was closed, and closed after it
module _ (h0 h1 h2 h3 : Faults) (x y : ℕ) (opened : h1 ≡ record h0 { logs = x }) (closed : h3 ≡ record h2 { logs = y }) where
  pub reads_kept : (b : Bool) → CountsFault h1.reads h2.reads b → CountsFault h0.reads h3.reads b
  reads_kept b t = subst (λ n. CountsFault n h3.reads b) (ap (λ (h : Faults). h.reads) opened) (subst (λ n. CountsFault h1.reads n b) (sym (ap (λ (h : Faults). h.reads) closed)) t)

  pub writes_kept : (b : Bool) → CountsFault h1.writes h2.writes b → CountsFault h0.writes h3.writes b
  writes_kept b t = subst (λ n. CountsFault n h3.writes b) (ap (λ (h : Faults). h.writes) opened) (subst (λ n. CountsFault h1.writes n b) (sym (ap (λ (h : Faults). h.writes) closed)) t)

  pub waits_kept : {T E : Type 0} (b : Bool) (r : Result T E) → b ≡ is_err r → ErrorIsCounted h1.waits h2.waits r → CountsFault h0.waits h3.waits b
  waits_kept b r e t = subst (λ n. CountsFault n h3.waits b) (ap (λ (h : Faults). h.waits) opened) (subst (λ n. CountsFault h1.waits n b) (sym (ap (λ (h : Faults). h.waits) closed)) (cause_reported h1.waits h2.waits b r e t))

  pub starts_kept : h2.starts ≡ h1.starts → CountsFault h0.starts h3.starts false
  starts_kept e = same_reported h0.starts h3.starts (ap (λ (h : Faults). h.starts) closed ∙ e ∙ ap (λ (h : Faults). h.starts) opened)
