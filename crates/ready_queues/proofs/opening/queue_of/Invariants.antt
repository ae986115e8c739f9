use Rattle.ready_queues.proofs.opening.queue_of.Given as goal

abbrev pub ghosts-open_queue : goal.ghosts-open_queue
ghosts-open_queue a = record { owner = a._owner.now; number = a._number }
