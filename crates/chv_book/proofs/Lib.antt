mod FewTickets
mod Words
mod OneView
mod TakesTurn
mod EndsTurn
mod Seats
mod TurnsTold
