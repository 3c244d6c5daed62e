-- What was written of a status.
use Rattle.std.proofs.Common.{◌≡◌, inl, inr, sym, ap, subst, ◌∙◌, ℕ, false, List, [], ◌++◌, take, length, append-nil, Option, Some}
use Rattle.std.proofs.Math.Seq.{take-length}
use Rattle.std.proofs.lemmas.List.{append_cancel_left}
use Rattle.std.specs.Io.KnownBytes.{Appends, Keeps}
use Rattle.alpha_outside.specs.Outside.{Rose}
use Rattle.alpha.specs.declared.status.Status.{Status}
use Rattle.alpha.specs.declared.status.Status.TheVariants as status
use Rattle.alpha.specs.Texts.{has_message, message_of}
use Rattle.alpha.specs.Promises.{IsAppended, IsFront, MessageIs}
use Rattle.alpha.proofs.Appended.{appended_is, kept_is}

-- the whole message, where the status isn't want of memory, or a front of it
message_or_front : (faults faults' : ℕ) (s : Status) (m : List ℕ) → m ≡ message_of s → IsFront m (message_of s) → MessageIs faults faults' s m
message_or_front faults faults' (status.Finished printed) m e front = inl e
message_or_front faults faults' status.Usage m e front = inl e
message_or_front faults faults' (status.Refused r) m e front = inl e
message_or_front faults faults' (status.TextTooLong name) m e front = inl e
message_or_front faults faults' (status.ReadFault name) m e front = inl e
message_or_front faults faults' (status.AfterRefused line) m e front = inl e
message_or_front faults faults' status.WriteFault m e front = inl e
message_or_front faults faults' status.TraceFault m e front = inl e
message_or_front faults faults' (status.LimitReached printed) m e front = inl e
message_or_front faults faults' (status.BudgetSpent kind number printed) m e front = inl e
message_or_front faults faults' (status.TermTooLarge line size printed) m e front = inl e
message_or_front faults faults' (status.Overflow line op left right printed) m e front = inl e
message_or_front faults faults' status.OutOfMemory m e front = front

failed_message : (faults faults' : ℕ) (s : Status) (m : List ℕ) → Rose faults faults' → IsFront m (message_of s) → MessageIs faults faults' s m
failed_message faults faults' (status.Finished printed) m rose front = inr (rose, front)
failed_message faults faults' status.Usage m rose front = inr (rose, front)
failed_message faults faults' (status.Refused r) m rose front = inr (rose, front)
failed_message faults faults' (status.TextTooLong name) m rose front = inr (rose, front)
failed_message faults faults' (status.ReadFault name) m rose front = inr (rose, front)
failed_message faults faults' (status.AfterRefused line) m rose front = inr (rose, front)
failed_message faults faults' status.WriteFault m rose front = inr (rose, front)
failed_message faults faults' status.TraceFault m rose front = inr (rose, front)
failed_message faults faults' (status.LimitReached printed) m rose front = inr (rose, front)
failed_message faults faults' (status.BudgetSpent kind number printed) m rose front = inr (rose, front)
failed_message faults faults' (status.TermTooLarge line size printed) m rose front = inr (rose, front)
failed_message faults faults' (status.Overflow line op left right printed) m rose front = inr (rose, front)
failed_message faults faults' status.OutOfMemory m rose front = front

whole_is_front : (xs : List ℕ) → IsFront xs xs
whole_is_front xs = (length xs, sym (take-length xs))

same_bytes : (held : Option (List ℕ)) (m : List ℕ) → IsAppended held held m → m ≡ []
same_bytes held m is =
    append_cancel_left is.0 m [] (let e : Some (is.0 ++ m) ≡ Some is.0 = sym is.2 ∙ is.1 in (cc (e, append-nil is.0)))

module _ (held held' : Option (List ℕ)) (faults faults' : ℕ) (s : Status) (m : List ℕ) (is : IsAppended held held' m) where
  -- a message was written
  pub written : (text : List ℕ) → text ≡ message_of s → Appends held held' text → MessageIs faults faults' s m
  written text e appends =
      let same : m ≡ message_of s = appended_is held held' m text is appends ∙ e in
      message_or_front faults faults' s m same (subst (λ xs. IsFront xs (message_of s)) (sym same) (whole_is_front (message_of s)))

  -- a part of it was
  pub cut_off : (text : List ℕ) → text ≡ message_of s → Rose faults faults' → ((n : ℕ) × Appends held held' (take n text)) → MessageIs faults faults' s m
  cut_off text e rose part =
      failed_message faults faults' s m rose (part.0, appended_is held held' m (take part.0 text) is part.1 ∙ ap (take part.0) e)

-- nothing was written where there is no message
pub no_message : (held : Option (List ℕ)) (faults faults' : ℕ) (s : Status) (m : List ℕ) → has_message s ≡ false → IsAppended held held m → MessageIs faults faults' s m
no_message held faults faults' (status.Finished printed) m none is = inl (same_bytes held m is)
no_message held faults faults' status.Usage m none is = absurd (cc)
no_message held faults faults' (status.Refused r) m none is = absurd (cc)
no_message held faults faults' (status.TextTooLong name) m none is = absurd (cc)
no_message held faults faults' (status.ReadFault name) m none is = absurd (cc)
no_message held faults faults' (status.AfterRefused line) m none is = absurd (cc)
no_message held faults faults' status.WriteFault m none is = absurd (cc)
no_message held faults faults' status.TraceFault m none is = absurd (cc)
no_message held faults faults' (status.LimitReached printed) m none is = inl (same_bytes held m is)
no_message held faults faults' (status.BudgetSpent kind number printed) m none is = inl (same_bytes held m is)
no_message held faults faults' (status.TermTooLarge line size printed) m none is = inl (same_bytes held m is)
no_message held faults faults' (status.Overflow line op left right printed) m none is = inl (same_bytes held m is)
no_message held faults faults' status.OutOfMemory m none is = absurd (cc)

-- nothing was written for want of memory
pub nothing_for_memory : (held : Option (List ℕ)) (faults faults' : ℕ) (m : List ℕ) → IsAppended held held m → MessageIs faults faults' status.OutOfMemory m
nothing_for_memory held faults faults' m is = (0, same_bytes held m is)

pub kept_for_memory : (held held' : Option (List ℕ)) (faults faults' : ℕ) (m : List ℕ) → IsAppended held held' m → Keeps held held' → MessageIs faults faults' status.OutOfMemory m
kept_for_memory held held' faults faults' m is keeps = (0, kept_is held held' m is keeps)
