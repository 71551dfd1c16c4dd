-- Each event leaves its task a good one.
use Rattle.std.proofs.Common.{◌≡◌, ◌≢◌, ℕ, ◌+◌, ◌<◌, ◌≤◌, Bool, true, false, ◌||◌, cond, List, length, map, get_or, arith, refl, sym, ◌∙◌}
use Rattle.std.specs.Prelude.{◌==◌, nat_lt, None}
use Rattle.std.specs.List.{All}
use Rattle.std.proofs.lemmas.Bool.{false≢true, ltb-true, eqb-true}
use Rattle.std.proofs.lemmas.Option.{none-some}
use Rattle.std.proofs.lemmas.List.Elements.{All-map}
use Rattle.exec_terms.specs.declared.phase.Phase.{Phase}
use Rattle.exec_terms.specs.declared.phase.Phase.TheVariants.{Pending, InProgress, Aborting, Aborted, Completed, Dead}
use Rattle.exec_terms.specs.declared.work.Lease.{Lease}
use Rattle.exec_terms.specs.declared.task.Task.{Task}
use Rattle.exec_terms.specs.declared.brokers.Host.{Host}
use Rattle.exec_terms.specs.Words.{in_flight, goes_on, needs, copies, next_step}
use Rattle.exec_terms.specs.Leases.{released, one_copied, one_failed, committed, cancelled}
use Rattle.exec_terms.specs.Stops.{stopped_by, phase_stopped, killed_by, phase_killed, marked}
use Rattle.exec_terms.specs.Valid.{IsLease, IsTask}

-- each changed task is a good one
module _ (base : List (List ℕ)) (hosts : List Host) (stopped : Bool) (leases : ℕ) where
  pub IsTask-released : (t : Task) → IsTask base hosts stopped leases t → IsTask base hosts stopped leases (released t)
  unfolding copies next_step
  IsTask-released t h = record {
    known = h.known;
    few_chunks = h.few_chunks;
    before = h.before;
    before_is = h.before_is;
    after_is = h.after_is;
    done = h.done;
    lease = λ l e. absurd (none-some l e);
    pending = λ e. record { done = (h.pending e).done; faults = (h.pending e).faults; lease = refl };
    faults = h.faults;
    doomed = h.doomed;
    alive = h.alive;
    none_waits = h.none_waits;
    completed = h.completed;
  }

  pub IsTask-one_copied : (t : Task) → t.phase ≡ InProgress → t.done < length (copies t) → IsTask base hosts stopped leases t → IsTask base hosts stopped leases (one_copied t)
  unfolding copies next_step
  IsTask-one_copied t p l h = record {
    known = h.known;
    few_chunks = h.few_chunks;
    before = h.before;
    before_is = h.before_is;
    after_is = h.after_is;
    done = omega arith;
    lease = λ l e. absurd (none-some l e);
    pending = λ e. cc;
    faults = h.faults;
    doomed = h.doomed;
    alive = h.alive;
    none_waits = h.none_waits;
    completed = λ e. cc;
  }

  pub IsTask-committed : (t : Task) → t.phase ≡ InProgress → length (copies t) ≤ t.done → IsTask base hosts stopped leases t → IsTask base hosts stopped leases (committed t)
  unfolding copies next_step
  IsTask-committed t p l h = record {
    known = h.known;
    few_chunks = h.few_chunks;
    before = h.before;
    before_is = h.before_is;
    after_is = h.after_is;
    done = h.done;
    lease = λ l e. absurd (none-some l e);
    pending = λ e. cc;
    faults = λ e. cc;
    doomed = λ d. absurd (false≢true (rw p at (h.doomed d)));
    alive = λ g. absurd (false≢true g);
    none_waits = λ s e. cc;
    completed = λ e. omega (arith, h.done);
  }

  pub IsTask-cancelled : (t : Task) → IsTask base hosts stopped leases t → IsTask base hosts stopped leases (cancelled t)
  unfolding copies next_step
  IsTask-cancelled t h = by t.doomed refl where
    by : (d : Bool) → t.doomed ≡ d → IsTask base hosts stopped leases (record t { phase = cond d Dead Aborted; lease = None })
    by true e = record {
      known = h.known;
      few_chunks = h.few_chunks;
      before = h.before;
      before_is = h.before_is;
      after_is = h.after_is;
      done = h.done;
      lease = λ l e. absurd (none-some l e);
      pending = λ e. cc;
      faults = λ e. cc;
      doomed = λ _. refl;
      alive = λ g. absurd (false≢true g);
      none_waits = λ s e. cc;
      completed = λ e. cc;
    }
    by false e = record {
      known = h.known;
      few_chunks = h.few_chunks;
      before = h.before;
      before_is = h.before_is;
      after_is = h.after_is;
      done = h.done;
      lease = λ l e. absurd (none-some l e);
      pending = λ e. cc;
      faults = λ e. cc;
      doomed = λ d. cc;
      alive = λ g. absurd (false≢true g);
      none_waits = λ s e. cc;
      completed = λ e. cc;
    }

  pub IsTask-one_failed : (t : Task) → t.phase ≡ InProgress → IsTask base hosts stopped leases t → IsTask base hosts stopped leases (one_failed t)
  unfolding copies next_step
  IsTask-one_failed t p h = by (nat_lt (t.faults + 1) 3) refl where
    by : (c : Bool) → nat_lt (t.faults + 1) 3 ≡ c → IsTask base hosts stopped leases
        (cond c (record t { faults = t.faults + 1; lease = None }) (record t { faults = t.faults + 1; phase = Aborting; doomed = true; lease = None }))
    by true e = record {
      known = h.known;
      few_chunks = h.few_chunks;
      before = h.before;
      before_is = h.before_is;
      after_is = h.after_is;
      done = h.done;
      lease = λ l e. absurd (none-some l e);
      pending = λ e. cc;
      faults = λ _. ltb-true (t.faults + 1) 3 e;
      doomed = h.doomed;
      alive = h.alive;
      none_waits = h.none_waits;
      completed = h.completed;
    }
    by false e = record {
      known = h.known;
      few_chunks = h.few_chunks;
      before = h.before;
      before_is = h.before_is;
      after_is = h.after_is;
      done = h.done;
      lease = λ l e. absurd (none-some l e);
      pending = λ e. cc;
      faults = λ e. cc;
      doomed = λ _. refl;
      alive = λ g. absurd (false≢true g);
      none_waits = λ s e. cc;
      completed = λ e. cc;
    }

  -- a task that does not wait, in an execution that is stopped
  IsTask-none_waits : (t : Task) → (t.phase ≢ Pending) → IsTask base hosts stopped leases t → IsTask base hosts true leases t
  unfolding copies next_step
  IsTask-none_waits t n h = record {
    known = h.known;
    few_chunks = h.few_chunks;
    before = h.before;
    before_is = h.before_is;
    after_is = h.after_is;
    done = h.done;
    lease = h.lease;
    pending = h.pending;
    faults = h.faults;
    doomed = h.doomed;
    alive = h.alive;
    none_waits = λ s. n;
    completed = h.completed;
  }

  -- a lease stays one where the task's phase goes on to Aborting
  IsLease-aborting : (t u : Task) (l : Lease) → u.phase ≡ Aborting → next_step u ≡ next_step t → IsLease leases t l → IsLease leases u l
  IsLease-aborting t u l p same h = record { given = h.given; flies = rw p refl; next = λ e. cc; copy = λ k. h.copy k ∙ sym same }

  pub IsTask-stopped_by : (force : Bool) (t : Task) → IsTask base hosts stopped leases t → IsTask base hosts true leases (stopped_by force t)
  unfolding copies next_step
  IsTask-stopped_by force t h = by force t.phase refl where
    by : (force : Bool) (p : Phase) → t.phase ≡ p → IsTask base hosts true leases (record t { phase = phase_stopped force p })
    by force Pending e = record {
      known = h.known;
      few_chunks = h.few_chunks;
      before = h.before;
      before_is = h.before_is;
      after_is = h.after_is;
      done = h.done;
      lease = λ l e'. absurd (none-some l (sym (h.pending e).lease ∙ e'));
      pending = λ e. cc;
      faults = λ e. cc;
      doomed = λ d. absurd (false≢true (rw e at (h.doomed d)));
      alive = λ g. absurd (false≢true g);
      none_waits = λ s e. cc;
      completed = λ e. cc;
    }
    by true InProgress e = record {
      known = h.known;
      few_chunks = h.few_chunks;
      before = h.before;
      before_is = h.before_is;
      after_is = h.after_is;
      done = h.done;
      lease = λ l e'. IsLease-aborting t (record t { phase = Aborting }) l refl refl (h.lease l e');
      pending = λ e. cc;
      faults = λ e. cc;
      doomed = λ _. refl;
      alive = λ g. absurd (false≢true g);
      none_waits = λ s e. cc;
      completed = λ e. cc;
    }
    by false InProgress e = rw (← e) (IsTask-none_waits t (λ q. cc) h)
    by force Aborting e = rw (← e) (IsTask-none_waits t (λ q. cc) h)
    by force Aborted e = rw (← e) (IsTask-none_waits t (λ q. cc) h)
    by force Completed e = rw (← e) (IsTask-none_waits t (λ q. cc) h)
    by force Dead e = rw (← e) (IsTask-none_waits t (λ q. cc) h)

  pub IsTask-killed_by : (b : ℕ) (t : Task) → IsTask base hosts stopped leases t → IsTask base (map (marked b) hosts) stopped leases (killed_by b t)
  unfolding copies next_step
  IsTask-killed_by b t h = by (needs t b) refl where
    -- the phases in which nothing changes but that the broker is hosts
    same : (p : Phase) → t.phase ≡ p → goes_on p ≡ false → p ≢ Pending → in_flight p ≡ false → IsTask base (map (marked b) hosts) stopped leases (record t { phase = p; doomed = t.doomed || false })
    same p e g n f = record {
      known = h.known;
      few_chunks = h.few_chunks;
      before = h.before;
      before_is = h.before_is;
      after_is = h.after_is;
      done = h.done;
      lease = λ l e'. let i = (h.lease l e') in record { given = i.given; flies = rw e at i.flies; next = λ q. i.next (e ∙ q); copy = i.copy };
      pending = λ q. absurd (n q);
      faults = λ q. h.faults (e ∙ q);
      doomed = λ d. rw e at (h.doomed (was t.doomed d));
      alive = λ q. absurd (false≢true (sym g ∙ q));
      none_waits = λ s. n;
      completed = λ q. h.completed (e ∙ q);
    } where
      was : (d : Bool) → (d || false) ≡ true → d ≡ true
      was true q = refl
      was false q = q

    hit : (p : Phase) → t.phase ≡ p → IsTask base (map (marked b) hosts) stopped leases (record t { phase = phase_killed p; doomed = t.doomed || in_flight p })
    hit Pending e = record {
      known = h.known;
      few_chunks = h.few_chunks;
      before = h.before;
      before_is = h.before_is;
      after_is = h.after_is;
      done = h.done;
      lease = λ l e'. absurd (none-some l (sym (h.pending e).lease ∙ e'));
      pending = λ e. cc;
      faults = λ e. cc;
      doomed = λ _. refl;
      alive = λ g. absurd (false≢true g);
      none_waits = λ s e. cc;
      completed = λ e. cc;
    }
    hit InProgress e = record {
      known = h.known;
      few_chunks = h.few_chunks;
      before = h.before;
      before_is = h.before_is;
      after_is = h.after_is;
      done = h.done;
      lease = λ l e'. IsLease-aborting t (record t { phase = Aborting; doomed = t.doomed || true }) l refl refl (h.lease l e');
      pending = λ e. cc;
      faults = λ e. cc;
      doomed = λ _. refl;
      alive = λ g. absurd (false≢true g);
      none_waits = λ s e. cc;
      completed = λ e. cc;
    }
    hit Aborting e = record {
      known = h.known;
      few_chunks = h.few_chunks;
      before = h.before;
      before_is = h.before_is;
      after_is = h.after_is;
      done = h.done;
      lease = λ l e'. IsLease-aborting t (record t { phase = Aborting; doomed = t.doomed || true }) l refl refl (h.lease l e');
      pending = λ e. cc;
      faults = λ e. cc;
      doomed = λ _. refl;
      alive = λ g. absurd (false≢true g);
      none_waits = λ s e. cc;
      completed = λ e. cc;
    }
    hit Aborted e = same Aborted e refl (λ q. cc) refl
    hit Completed e = same Completed e refl (λ q. cc) refl
    hit Dead e = same Dead e refl (λ q. cc) refl

    marked_alive : needs t b ≡ false → All (λ h. h.dead ≡ true → needs t h.id ≡ false) hosts → All (λ h. h.dead ≡ true → needs t h.id ≡ false) (map (marked b) hosts)
    marked_alive n all = All-map (λ h. h.dead ≡ true → needs t h.id ≡ false) (marked b) hosts (λ k d l. by (get_or hosts k d) ((get_or hosts k d).id == b) refl (all k d l)) where
      by : (h : Host) (c : Bool) → (h.id == b) ≡ c → (h.dead ≡ true → needs t h.id ≡ false) → (cond c (record h { dead = true }) h).dead ≡ true → needs t (cond c (record h { dead = true }) h).id ≡ false
      by h true e was q = rw (eqb-true h.id b e) n
      by h false e was q = was q

    by : (c : Bool) → needs t b ≡ c → IsTask base (map (marked b) hosts) stopped leases (cond c (record t { phase = phase_killed t.phase; doomed = t.doomed || in_flight t.phase }) t)
    by true n = hit t.phase refl
    by false n = record {
      known = h.known;
      few_chunks = h.few_chunks;
      before = h.before;
      before_is = h.before_is;
      after_is = h.after_is;
      done = h.done;
      lease = h.lease;
      pending = h.pending;
      faults = h.faults;
      doomed = h.doomed;
      alive = λ g. marked_alive n (h.alive g);
      none_waits = h.none_waits;
      completed = h.completed;
    }
