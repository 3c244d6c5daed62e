-- What was appended to a sink, and what was noted by a trace.
use Rattle.std.proofs.Common.{◌≡◌, refl, sym, ap, subst, ◌∙◌, ℕ, List, [], ◌∷◌, ◌++◌, Option, Some, None, append-nil}
use Rattle.std.specs.Io.KnownBytes.{Appends, Keeps}
use Rattle.std.proofs.KnownBytes.{Appends-nil, Appends-kept}
use Rattle.std.proofs.lemmas.List.{append_cancel_left}
use Rattle.alpha_outside.specs.declared.event.Event.{Event}
use Rattle.alpha_outside.specs.Outside.{Journal, named}
use Rattle.search_journals.specs.Journals.{Adds}
use Rattle.alpha.specs.Promises.{IsAppended, OnlyAppends, IsNoted, OnlyNotes, NameIs, NameIsKept, begun}

-- ---- bytes

-- the bytes that were appended are those of which it is known
pub appended_is : (held held' : Option (List ℕ)) (b x : List ℕ) → IsAppended held held' b → Appends held held' x → b ≡ x
appended_is held held' b x is appends =
    let at : Appends (Some is.0) (Some (is.0 ++ b)) x = subst (λ h. Appends (Some is.0) h x) is.2 (subst (λ h. Appends h held' x) is.1 appends) in
    append_cancel_left is.0 b x at

pub kept_is : (held held' : Option (List ℕ)) (b : List ℕ) → IsAppended held held' b → Keeps held held' → b ≡ []
kept_is held held' b is keeps =
    let at : Keeps (Some is.0) (Some (is.0 ++ b)) = subst (λ h. Keeps (Some is.0) h) is.2 (subst (λ h. Keeps h held') is.1 keeps) in
    append_cancel_left is.0 b [] (at ∙ sym (append-nil is.0))

-- where bytes were appended, nothing else was done
pub only_appends : (held held' : Option (List ℕ)) (x : List ℕ) → Appends held held' x → OnlyAppends held held'
only_appends None held' x appends = tt
only_appends (Some before) None x appends = absurd appends
only_appends (Some before) (Some after) x appends = (x, (before, refl, ap Some appends))

pub only_keeps : (held held' : Option (List ℕ)) → Keeps held held' → OnlyAppends held held'
only_keeps held held' keeps = only_appends held held' [] (Appends-kept held held held' [] (Appends-nil held) keeps)

-- ---- events

some_journal : (j k : Journal) → Some j ≡ Some k → j ≡ k
some_journal j k e = cc

no_more : (xs : List Event) → xs ++ [] ≡ xs
no_more [] = refl
no_more (x ∷ xs) = ap (λ ys. x ∷ ys) (no_more xs)

-- a trace that tells its events goes on to tell them where a file is named
begun_some : (name : Option (List ℕ)) (before : Journal) → (j : Journal) × (begun name (Some before) ≡ Some j) × (Journal.events j ≡ Journal.events before)
begun_some None before = (before, refl, refl)
begun_some (Some name) before = (named name before, refl, refl)

same_rest : (xs ys zs : List Event) → xs ++ ys ≡ xs ++ zs → ys ≡ zs
same_rest xs ys zs e = append_cancel_left xs ys zs e

-- the events that were noted are those of which it is known
pub noted_is : (told told' : Option Journal) (name : Option (List ℕ)) (E events : List Event) → IsNoted told told' E
    → Adds (begun name told) told' events → events ≡ E
noted_is told told' name E events is adds =
    let at : Adds (begun name (Some is.0)) told' events = subst (λ t. Adds (begun name t) told' events) is.2 adds in
    let b = begun_some name is.0 in
    let now : told' ≡ Some (record b.0 { events = Journal.events b.0 ++ events }) = subst (λ t. Adds t told' events) b.1 at in
    let all : is.1 ≡ record b.0 { events = Journal.events b.0 ++ events } = some_journal _ _ (sym is.3 ∙ now) in
    same_rest (Journal.events is.0) events E (sym (ap (λ xs. xs ++ events) b.2) ∙ sym (ap Journal.events all) ∙ is.4)

-- nothing was told where nothing has changed
pub adds_nothing : (told told' : Option Journal) → told' ≡ told → Adds told told' []
adds_nothing None told' e = e
adds_nothing (Some j) told' e = e ∙ ap (λ z. let k : Journal = record j { events = z } in Some k) (sym (no_more j.events))

-- where nothing has changed there are no events
pub none_noted : (told told' : Option Journal) (E : List Event) → told' ≡ told → IsNoted told told' E → E ≡ []
none_noted told told' E same is =
    let both : is.1 ≡ is.0 = some_journal _ _ (sym is.3 ∙ same ∙ is.2) in
    sym (same_rest (Journal.events is.0) [] E (no_more (Journal.events is.0) ∙ sym (ap Journal.events both) ∙ is.4))

-- where events were told, nothing else was done
pub only_notes : (told told' : Option Journal) (name : Option (List ℕ)) (events : List Event) → Adds (begun name told) told' events
    → OnlyNotes told told'
only_notes None told' name events adds = tt
only_notes (Some before) told' name events adds =
    let b = begun_some name before in
    let now : told' ≡ Some (record b.0 { events = Journal.events b.0 ++ events }) = subst (λ t. Adds t told' events) b.1 adds in
    (events, (before, record b.0 { events = Journal.events b.0 ++ events }, refl, now, ap (λ xs. xs ++ events) b.2))

-- and none is one of these
pub only_still : (told told' : Option Journal) → told' ≡ told → OnlyNotes told told'
only_still None told' same = tt
only_still (Some before) told' same = ([], (before, before, refl, same, sym (no_more (Journal.events before))))

-- ---- the name of the file

-- where nothing has changed the name is kept
pub name_still : (told told' : Option Journal) → told' ≡ told → NameIsKept told told'
name_still None told' same = tt
name_still (Some before) None same = tt
name_still (Some before) (Some now) same = ap Journal.name (some_journal now before same)

-- so it is where no file was named
pub name_kept : (told told' : Option Journal) (events : List Event) → Adds told told' events → NameIsKept told told'
name_kept None told' events adds = tt
name_kept (Some before) None events adds = tt
name_kept (Some before) (Some now) events adds = ap Journal.name (some_journal now _ adds)

-- and where one was, it is that
pub name_given : (told told' : Option Journal) (name : List ℕ) (events : List Event) → Adds (begun (Some name) told) told' events → NameIs name told'
name_given told None name events adds = tt
name_given None (Some now) name events adds = absurd (let bad : Some now ≡ None = adds in cc)
name_given (Some before) (Some now) name events adds = ap Journal.name (some_journal now _ adds)
