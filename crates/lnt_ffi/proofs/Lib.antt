mod BracketLemmas
mod IndexLemmas
mod LookLemmas
mod PutLemmas
mod RoomLemmas
mod ReturnLemmas
