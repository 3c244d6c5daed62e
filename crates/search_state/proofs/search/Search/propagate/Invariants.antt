use Rattle.search_state.proofs.search.Search.propagate.Given as goal

abbrev pub ghosts-propagate_counted : goal.ghosts-propagate_counted
ghosts-propagate_counted g a = record { name = a.blank.name; parts = a.blank.parts }
